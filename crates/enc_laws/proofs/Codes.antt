-- Every steady encoder goes on by what it gives for a code point.
use Rattle.std.proofs.Common.{ℕ, ◌≡◌, List, [], ◌∷◌, ◌++◌, None, refl, sym, ◌∙◌, ap}
use Rattle.enc_model.specs.declared.Mode.{Mode}
use Rattle.enc_model.specs.declared.Mode.TheVariants.{Html, Fatal}
use Rattle.enc_model.specs.Encode.{Shift, Written, Wrote, Restore, Unmappable, Encoder, Coded, led_by, went, reference}
use Rattle.enc_model.specs.Encode.{coded_within, coded, joined_code, all_codes, after_written, settled, code_within}
use Rattle.enc_model.specs.Encode.{plain_code, code_of, IsWrote, IsNoRestore, IsSteadyEncoder}
use Rattle.enc_model.proofs.Coding.{ArePlain, all_codes_append, coded_is, joined_after, joined_more, code_after}
use Rattle.enc_model.proofs.Coding.{reference_plain}

-- WHAT AN ENCODER GIVES

settled_same : (f : Encoder) (c : ℕ) (x : List ℕ) (w : Written) → IsNoRestore (after_written x w) → settled f c w ≡ w
settled_same f c x (Wrote b s) n = refl
settled_same f c x (Restore b s) n = absurd n
settled_same f c x (Unmappable b s d) n = refl

module _ (f : Encoder) (steady : IsSteadyEncoder f) (mode : Mode) where
  plain_one : (w : Written) → IsWrote w →
      code_within mode (all_codes (plain_code f)) w ≡ code_within Html (λ next cs. record {
        bytes = [];
        state = next;
        fault = None;
      }) w
  plain_one (Wrote b s) i = refl
  plain_one (Restore b s) i = absurd i
  plain_one (Unmappable b s d) i = absurd i

  plain_codes : (r : List ℕ) (s : Shift) → ArePlain r → all_codes (code_of f mode) s r ≡ all_codes (plain_code f) s r
  plain_codes [] s p = refl
  plain_codes (c ∷ r) s p =
      ap (λ z. joined_code z (λ next. all_codes (code_of f mode) next r))
      (plain_one (settled f c (f s c)) (steady.ascii s c p.0 p.1))
      ∙ joined_more (plain_code f s c) (λ next. all_codes (code_of f mode) next r)
      (λ next. all_codes (plain_code f) next r) (λ next. plain_codes r next p.2)

  pub none : (s : Shift) → coded f mode s [] ≡ record { bytes = []; state = s; fault = None }
  unfolding coded coded_within
  none s = refl

  module _ (c : ℕ) (cs : List ℕ) where
    abbrev rest : Shift → Coded
    rest next = all_codes (code_of f mode) next cs

    unmappable_case : (m : Mode) (b : List ℕ) (s : Shift) (d : ℕ) → m ≡ mode →
        joined_code (code_within m (all_codes (plain_code f)) (Unmappable b s d)) rest ≡ went m (coded f mode) c cs
        (Unmappable b s d)
    unmappable_case Fatal b s d e = refl
    unmappable_case Html b s d e =
        let ref = reference d in
        joined_after b (all_codes (plain_code f) s ref) rest
        ∙ ap (λ z. led_by b (joined_code z rest)) (sym (plain_codes ref s (reference_plain d)))
        ∙ ap (led_by b) (sym (all_codes_append (code_of f mode) s ref cs) ∙ sym (coded_is f steady mode s (ref ++ cs)))

    more_case : (w : Written) → IsNoRestore (settled f c w) →
        joined_code (code_within mode (all_codes (plain_code f)) (settled f c w)) rest ≡ went mode (coded f mode) c cs w
    more_case (Wrote b s) n = ap (led_by b) (sym (coded_is f steady mode s cs))
    more_case (Unmappable b s d) n = unmappable_case mode b s d refl
    more_case (Restore b s) n =
        let go = all_codes (plain_code f) in
        ap (λ z. joined_code z rest) (code_after mode go b (f s c))
        ∙ joined_after b (code_within mode go (f s c)) rest
        ∙ ap (λ z. led_by b (joined_code (code_within mode go z) rest)) (sym (settled_same f c b (f s c) n))
        ∙ ap (led_by b) (sym (coded_is f steady mode s (c ∷ cs)))

    pub more : (s : Shift) → coded f mode s (c ∷ cs) ≡ went mode (coded f mode) c cs (f s c)
    more s = coded_is f steady mode s (c ∷ cs) ∙ more_case (f s c) (steady.once s c)
