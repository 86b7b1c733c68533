-- Only the encoder of ISO-2022-JP leaves its first state.
use Rattle.std.proofs.Common.{ℕ, zero, suc, ◌*◌, ◌≡◌, ◌⊎◌, List, [], ◌∷◌, ◌++◌, refl, ◌∙◌, length, arith, inl, inr}
use Rattle.std.proofs.lemmas.Bool.Decides.{nat_tests}
use Rattle.enc_model.specs.declared.Encoding.{Encoding}
use Rattle.enc_model.specs.declared.Encoding.TheVariants.{Utf8, Utf16Be, Utf16Le, ShiftJis, EucJp, Iso2022Jp}
use Rattle.enc_model.specs.declared.Mode.{Mode}
use Rattle.enc_model.specs.declared.Mode.TheVariants.{Html, Fatal}
use Rattle.enc_model.specs.Index.{Index}
use Rattle.enc_model.specs.Encode.{Tables, Shift, InAscii, Encoder, Written, Wrote, Restore, Unmappable, Coded, coded}
use Rattle.enc_model.specs.Encode.{coded_within, went, reference, encoder, shift_jis_encoder, euc_jp_encoder}
use Rattle.enc_model.specs.Encode.{single_encoder}

abbrev shift_after : Written → Shift
shift_after (Wrote bytes s) = s
shift_after (Restore bytes s) = s
shift_after (Unmappable bytes s c) = s

-- it leaves its state as it is
abbrev IsStill : Encoder → Type 0
IsStill f = (s : Shift) (c : ℕ) → shift_after (f s c) ≡ s

went_still : (mode : Mode) (go : Shift → List ℕ → Coded) (c : ℕ) (cs : List ℕ) (w : Written)
    → ((s : Shift) (cs : List ℕ) → (go s cs).state ≡ s) →
    (went mode go c cs w).state ≡ shift_after w
went_still mode go c cs (Wrote bytes s) h = h s cs
went_still mode go c cs (Restore bytes s) h = h s (c ∷ cs)
went_still Html go c cs (Unmappable bytes s d) h = h s (reference d ++ cs)
went_still Fatal go c cs (Unmappable bytes s d) h = refl

within_still : (f : Encoder) → IsStill f → (mode : Mode) (n : ℕ) (s : Shift) (cs : List ℕ)
    → (coded_within n f mode s cs).state ≡ s
unfolding coded_within
within_still f still mode zero s cs = refl
within_still f still mode (suc n) s [] = refl
within_still f still mode (suc n) s (c ∷ cs) =
    went_still mode (coded_within n f mode) c cs (f s c) (within_still f still mode n) ∙ still s c

coded_still : (f : Encoder) → IsStill f → (mode : Mode) (s : Shift) (cs : List ℕ) → (coded f mode s cs).state ≡ s
unfolding coded
coded_still f still mode s cs = within_still f still mode (136 * length cs) s cs

shift_jis_still : (i : Index) → IsStill (shift_jis_encoder i)
unfolding shift_jis_encoder
shift_jis_still i s c = grind (arith, nat_tests)

euc_jp_still : (i : Index) → IsStill (euc_jp_encoder i)
unfolding euc_jp_encoder
euc_jp_still i s c = grind (arith, nat_tests)

single_still : (i : Index) → IsStill (single_encoder i)
unfolding single_encoder
single_still i s c = grind (arith, nat_tests)

-- or it is ISO-2022-JP's
still : (t : Tables) (to : Encoding) → (to ≡ Iso2022Jp) ⊎ IsStill (encoder t to)
still t Utf8 = inr (λ s c. refl)
still t Utf16Be = inr (λ s c. refl)
still t Utf16Le = inr (λ s c. refl)
still t ShiftJis = inr (shift_jis_still t.jis0208)
still t EucJp = inr (euc_jp_still t.jis0208)
still t Iso2022Jp = inl refl
still t e = inr (single_still (t.single e))

-- no code is nothing to code
pub coded_nothing : (f : Encoder) (mode : Mode) (s : Shift) → (coded f mode s []).state ≡ s
unfolding coded coded_within
coded_nothing f mode s = refl

-- from the first state the code of a text leads to it again, but for ISO-2022-JP
pub coded_in_ascii : (t : Tables) (to : Encoding) (mode : Mode) (s : Shift) (cs : List ℕ)
    → (to ≡ Iso2022Jp) ⊎ (s ≡ InAscii) →
    (to ≡ Iso2022Jp) ⊎ ((coded (encoder t to) mode s cs).state ≡ InAscii)
coded_in_ascii t to mode s cs (inl iso) = inl iso
coded_in_ascii t to mode s cs (inr ascii) = go (still t to)
  where
    go : (to ≡ Iso2022Jp) ⊎ IsStill (encoder t to)
        → (to ≡ Iso2022Jp) ⊎ ((coded (encoder t to) mode s cs).state ≡ InAscii)
    go (inl iso) = inl iso
    go (inr h) = inr (coded_still (encoder t to) h mode s cs ∙ ascii)
