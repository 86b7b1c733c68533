-- Decoding with a BOM, in any cut.
use Rattle.std.proofs.Common.{ℕ, ◌≡◌, Bool, true, false, List, [], ◌∷◌, ◌++◌, refl, sym, ◌∙◌, ap, arith, append-nil}
use Rattle.std.proofs.Common.{if◌then◌else◌}
use Rattle.enc_model.specs.declared.Encoding.{Encoding}
use Rattle.enc_model.specs.Encode.{Tables}
use Rattle.enc_model.specs.Decode.{Decoding, OfUtf8, OfUtf16, OfShiftJis, OfEucJp, OfIso2022, OfSingle, run_as}
use Rattle.enc_model.specs.Decode.{after_run, decoding, decoding_start, sniffed, undecided, Held, Reading, decoded}
use Rattle.enc_model.specs.Decode.{advance, conclude}
use Rattle.enc_model.proofs.Steps.{steps_append}
use Rattle.enc_model.proofs.Calm.{utf8_calm, utf16_calm, single_calm, shift_jis_calm, euc_jp_calm, iso2022_calm}

-- the law, whichever encoding it is
pub decoding_append : (t : Tables) (ended : Bool) (s : Decoding) (b c : List ℕ) →
    decoding t ended s (b ++ c) ≡ (let first = decoding t false s b in after_run first.text
    (decoding t ended first.state c))
unfolding decoding
decoding_append t ended (OfUtf8 s) b c = ap (run_as OfUtf8) (steps_append _ utf8_calm ended s b c)
decoding_append t ended (OfUtf16 o s) b c = ap (run_as (OfUtf16 o)) (steps_append _ (utf16_calm o) ended s b c)
decoding_append t ended (OfShiftJis s) b c =
    ap (run_as OfShiftJis) (steps_append _ (shift_jis_calm t.jis0208) ended s b c)
decoding_append t ended (OfEucJp s) b c =
    ap (run_as OfEucJp) (steps_append _ (euc_jp_calm t.jis0208 t.jis0212) ended s b c)
decoding_append t ended (OfIso2022 s) b c = ap (run_as OfIso2022) (steps_append _ (iso2022_calm t.jis0208) ended s b c)
decoding_append t ended (OfSingle e s) b c =
    ap (run_as (OfSingle e)) (steps_append _ (single_calm (t.single e)) ended s b c)

-- more bytes don't make undecided what was decided
decided_more : (b c : List ℕ) → undecided b ≡ false → undecided (b ++ c) ≡ false
decided_more [] c h = absurd cc
decided_more (x ∷ []) [] h = h
decided_more (x ∷ []) (y ∷ []) h = grind (arith, h)
decided_more (x ∷ []) (y ∷ z ∷ c) h = refl
decided_more (x ∷ y ∷ []) [] h = h
decided_more (x ∷ y ∷ []) (z ∷ c) h = refl
decided_more (x ∷ y ∷ z ∷ b) c h = refl

-- nor do they change what was sniffed
sniffed_more : (e : Encoding) (b c : List ℕ) → undecided b ≡ false → sniffed e
    (b ++ c) ≡ ((sniffed e b).0, (sniffed e b).1 ++ c)
sniffed_more e [] c h = absurd cc
sniffed_more e (x ∷ []) c h = grind (arith, h)
sniffed_more e (x ∷ y ∷ []) c h = grind (arith, h)
sniffed_more e (x ∷ y ∷ z ∷ b) c h = grind arith

pub decoded_held : (t : Tables) (e : Encoding) (b : List ℕ) → undecided b ≡ true → decoded t e b false ≡ Held b
unfolding decoded
decoded_held t e b h = rw h refl

pub decoded_reading : (t : Tables) (e : Encoding) (b : List ℕ) → undecided b ≡ false →
    decoded t e b false ≡ Reading (decoding t false (decoding_start (sniffed e b).0) (sniffed e b).1)
unfolding decoded
decoded_reading t e b h =
    ap (λ u. if u then Held b else Reading (decoding t false (decoding_start (sniffed e b).0) (sniffed e b).1)) h

-- THE LAW OF DECODING: the bytes so far, and then one piece more.
pub advance_more : (t : Tables) (e : Encoding) (b c : List ℕ) → advance t e (decoded t e b false) c ≡ decoded t e
    (b ++ c) false
unfolding advance
advance_more t e b c = go (undecided b) refl
  where
    go : (u : Bool) → undecided b ≡ u → advance t e (decoded t e b false) c ≡ decoded t e (b ++ c) false
    go true h = ap (λ d. advance t e d c) (decoded_held t e b h)
    go false h =
        let s = sniffed e b in
        ap (λ d. advance t e d c) (decoded_reading t e b h)
        ∙ ap Reading (sym (decoding_append t false (decoding_start s.0) s.1 c))
        ∙ ap (λ z. Reading (decoding t false (decoding_start z.0) z.1)) (sym (sniffed_more e b c h))
        ∙ sym (decoded_reading t e (b ++ c) (decided_more b c h))

-- Before there was a byte, nothing was decoded.
pub decoded_none : (t : Tables) (e : Encoding) → decoded t e [] false ≡ Held []
decoded_none t e = decoded_held t e [] refl

-- what is undecided is no BOM
undecided_sniffed : (e : Encoding) (b : List ℕ) → undecided b ≡ true → sniffed e b ≡ (e, b)
undecided_sniffed e [] h = refl
undecided_sniffed e (x ∷ []) h = grind (arith, h)
undecided_sniffed e (x ∷ y ∷ []) h = grind (arith, h)
undecided_sniffed e (x ∷ y ∷ z ∷ b) h = absurd cc

-- THE LAW OF THE END.
pub conclude_all : (t : Tables) (e : Encoding) (b : List ℕ) → conclude t e (decoded t e b false) ≡ decoded t e b true
unfolding conclude decoded
conclude_all t e b = go (undecided b) refl
  where
    go : (u : Bool) → undecided b ≡ u → conclude t e (decoded t e b false) ≡ decoded t e b true
    go true h =
        ap (conclude t e) (decoded_held t e b h)
        ∙ ap (λ z. Reading (decoding t true (decoding_start z.0) z.1)) (sym (undecided_sniffed e b h))
    go false h =
        let s = sniffed e b in
        ap (conclude t e) (decoded_reading t e b h)
        ∙ ap Reading (sym (decoding_append t true (decoding_start s.0) s.1 []))
        ∙ ap (λ z. Reading (decoding t true (decoding_start s.0) z)) (append-nil s.1)
