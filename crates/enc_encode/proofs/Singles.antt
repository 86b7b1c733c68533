-- Characters that a single-byte encoding has.
use Rattle.std.proofs.Common.{ℕ, ◌≡◌, false, List, Option, Some, None, refl, arith, nat_lt, Bor, IfSome}
use Rattle.std.proofs.Common.{MatchOption, ◌<◌, ◌∷◌, [], true, inl, inr}
use Rattle.std.proofs.lemmas.Bool.Decides.{nat_tests}
use Rattle.enc_model.specs.declared.Encoding.{Encoding}
use Rattle.enc_model.specs.declared.Encoding.TheVariants as encodings
use Rattle.enc_model.specs.Index.{pointer}
use Rattle.enc_model.specs.Encode.{Tables, encoder, single_encoder}
use Rattle.enc_index.specs.Entries.{found_pointer}
use Rattle.enc_encode.specs.Singles.{AreSingles, IsSingleByte}

pub ascii_single : (at : List ℕ) (c : ℕ) → c < 128 → IsSingleByte at c (c ∷ [])
ascii_single at c l = inl (l, refl)

-- the encodings that have a single-byte index
pub single_is : (t : Tables) (e : Encoding) → (e ≡ encodings.Utf8 → ⊥) → (e ≡ encodings.Utf16Be → ⊥)
    → (e ≡ encodings.Utf16Le → ⊥) →
    (e ≡ encodings.ShiftJis → ⊥) → (e ≡ encodings.EucJp → ⊥) → (e ≡ encodings.Iso2022Jp → ⊥)
    → encoder t e ≡ single_encoder (t.single e)
single_is t encodings.Utf8 a b c d f g = absurd (a refl)
single_is t encodings.Utf16Be a b c d f g = absurd (b refl)
single_is t encodings.Utf16Le a b c d f g = absurd (c refl)
single_is t encodings.ShiftJis a b c d f g = absurd (d refl)
single_is t encodings.EucJp a b c d f g = absurd (f refl)
single_is t encodings.Iso2022Jp a b c d f g = absurd (g refl)
single_is t e a b c d f g = refl

pub singles_are : (t : Tables) (e : Encoding) (at : List ℕ) → encoder t e ≡ single_encoder (t.single e)
    → ((c : ℕ) → found_pointer at c ≡ pointer (t.single e) c) →
    AreSingles (encoder t e) at
unfolding single_encoder
singles_are t e at is same s c bytes (inl h) =
    let ascii : nat_lt c 0x80 ≡ true = let l = h.0 in grind (arith, nat_tests, l) in
    rw (is, ascii, h.1) refl
singles_are t e at is same s c bytes (inr h) =
    let outside : nat_lt c 0x80 ≡ false = let l = h.0 in grind (arith, nat_tests, l) in
    rw (is, outside, ← same c, h.2, h.3) refl

-- the table that was found, if any
pub singles_found : (t : Tables) (e : Encoding) (r : Option (Bor (List ℕ))) → encoder t e ≡ single_encoder (t.single e)
    →
    MatchOption r ((c : ℕ) → pointer (t.single e) c ≡ None) (λ p. (c : ℕ)
    → found_pointer p.now c ≡ pointer (t.single e) c) →
    IfSome r (λ p. AreSingles (encoder t e) p.now)
singles_found t e None is m = tt
singles_found t e (Some p) is m = singles_are t e p.now is m
