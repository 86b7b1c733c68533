use Rattle.std.proofs.Common.{◌≡◌, ◌==◌, ◌-◌, ℕ, suc, false, length, slice_index, List, arith, rules, inl, inr}
use Rattle.std.proofs.Common.{sym, ap, ◌∙◌, eq-eqb}
use Rattle.std.specs.Option.{option_copied}
use Rattle.std.proofs.lemmas.Bool.{cases_lt, ne_eqb}
use Rattle.std.proofs.lemmas.Option.{get_or_from_slice_get, slice_get_within}
use Rattle.gateway_script.specs.Lines.{IsLine}
use Rattle.gateway_script.proofs.Cuts.{NoneIn, cut_at, uncut}
use Rattle.gateway_script.proofs.runs.text_of.Goals as goal

-- a line whose last byte is no LF has none
none_at_all : (line : List ℕ) → IsLine line → (slice_index line (length line - 1) == 10) ≡ false
    → NoneIn (length line) line
none_at_all line one last k h =
    elim (cases_lt (suc k) (length line)) [
      | inl l ↦ one k l
      | inr g ↦ (let same : k ≡ length line - 1 = omega arith in ap (λ j. slice_index line j == 10) same ∙ last)
    ]

pub returns-in-Some-eq10 : goal.returns-in-Some-eq10
returns-in-Some-eq10 c =
    let line = c.args.line.now in
    let is = sym c.in-Some-eq10.ensures.value in
    let last : slice_index line (length line - 1) ≡ 10 =
    get_or_from_slice_get line _ _ 0 is ∙ c.in-Some-eq10.field-0-test in
    (cut_at (length line - 1) line (slice_get_within line _ _ is) (λ k l. c.requires k (omega (arith, l)))
    (eq-eqb _ 10 last)).1

pub returns-in_default : goal.returns-in_default
returns-in_default c =
    let line = c.args.line.now in
    let is = sym c.last.ensures.value ∙ ap option_copied c.in_default.is in
    let other : c.in_default.field-0.now ≡ 10 → ⊥ = search rules in
    (uncut line (none_at_all line c.requires
    (ne_eqb _ 10 (λ e. other (sym (get_or_from_slice_get line _ _ 0 is) ∙ e))))).1
