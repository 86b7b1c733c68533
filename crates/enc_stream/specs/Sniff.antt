-- BOM sniffing over pieces (Encoding Standard, section 6).
use Rattle.std.specs.Prelude.{ℕ, ◌≡◌, ◌≤◌, true, false, List, [], ◌∷◌, ◌++◌, drop, length}
use Rattle.enc_model.specs.declared.Encoding.{Encoding}
use Rattle.enc_model.specs.declared.Encoding.TheVariants as encodings
use Rattle.enc_model.specs.Decode.{sniffed, undecided}
use Rattle.enc_stream.specs.declared.sniff.Held.{Held}
use Rattle.enc_stream.specs.declared.sniff.Held.TheVariants.{Nothing, Ef, EfBb, Fe, Ff}
use Rattle.enc_stream.specs.declared.sniff.Sniffed.{Sniffed}
use Rattle.enc_stream.specs.declared.sniff.Sniffed.TheVariants.{Still, Bom, Plain}

abbrev pub held_bytes : Held → List ℕ
held_bytes Nothing = []
held_bytes Ef = 0xEF ∷ []
held_bytes EfBb = 0xEF ∷ 0xBB ∷ []
held_bytes Fe = 0xFE ∷ []
held_bytes Ff = 0xFF ∷ []

-- With this byte after them, they are the BOM of this encoding.
abbrev pub LacksOne : Held → ℕ → Encoding → Type 0
LacksOne Nothing last e = ⊥
LacksOne Ef last e = ⊥
LacksOne EfBb last e = (last ≡ 0xBF) × (e ≡ encodings.Utf8)
LacksOne Fe last e = (last ≡ 0xFF) × (e ≡ encodings.Utf16Be)
LacksOne Ff last e = (last ≡ 0xFE) × (e ≡ encodings.Utf16Le)

-- The held bytes and the piece are still undecided; or they begin with a BOM, which ends in the piece; or they don't.
abbrev pub Sniffs : Held → List ℕ → Sniffed → Type 0
Sniffs held piece (Still next) =
    (undecided (held_bytes held ++ piece) ≡ true) × (held_bytes next ≡ held_bytes held ++ piece)
Sniffs held piece (Bom e skip) =
    (undecided (held_bytes held ++ piece) ≡ false) × (skip ≤ length piece) × ((from : Encoding)
    → sniffed from (held_bytes held ++ piece) ≡ (e, drop skip piece))
Sniffs held piece Plain =
    (undecided (held_bytes held ++ piece) ≡ false) × ((from : Encoding)
    → sniffed from (held_bytes held ++ piece) ≡ (from, held_bytes held ++ piece))
