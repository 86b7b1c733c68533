-- Where bytes lead from the start.
use Rattle.std.proofs.Common.{ℕ, ◌+◌, ◌-◌, ◌*◌, ◌≤◌, ◌≡◌, subst, ◌++◌, List, [], ◌∷◌, Some, false, sym, ◌∙◌, ap, arith}
use Rattle.std.proofs.lemmas.Grind.{common_steps}
use Rattle.enc_model.specs.declared.Answer.TheVariants.{Nothing}
use Rattle.enc_model.specs.Stream.{steps, all_bytes, quick}
use Rattle.enc_model.specs.Utf8.{Utf8, utf8, utf8_start, utf8_first}
use Rattle.enc_model.proofs.Calm.{utf8_calm}
use Rattle.enc_model.proofs.Steps.{steps_none, steps_one, steps_append}
use Rattle.enc_unicode.specs.Utf8State.{utf8_after, IsUnfinishedState}

pub after_none : utf8_start ≡ utf8_after []
after_none = ap (λ run. run.state) (sym (steps_none utf8 utf8_start))

-- one byte more, which isn't read again
pub after_more : (s : Utf8) (b : ℕ) → s ≡ utf8_after s.partial → (utf8 s (Some b)).restored ≡ [] →
    (utf8 s (Some b)).state ≡ utf8_after (s.partial ++ b ∷ [])
after_more s b is none =
    let t = utf8 s (Some b) in
    ap (λ again. (all_bytes (quick utf8) t.state again).state) (sym none)
    ∙ ap (λ run. run.state) (sym (steps_one utf8 utf8_calm s b))
    ∙ ap (λ z. (steps utf8 false z (b ∷ [])).state) is
    ∙ ap (λ run. run.state) (sym (steps_append utf8 utf8_calm false utf8_start s.partial (b ∷ [])))

first_same : (b : ℕ) → (utf8_first b).restored ≡ []
first_same b = grind (arith, common_steps)

-- the first byte
pub after_first : (b : ℕ) → (utf8_first b).state ≡ utf8_after (b ∷ [])
unfolding utf8
after_first b = after_more utf8_start b after_none (first_same b)

-- a state that is where the first byte leads
pub after_lead : (b : ℕ) (s : Utf8) → s.partial ≡ b ∷ [] → s ≡ (utf8_first b).state → IsUnfinishedState s
after_lead b s partial is = is ∙ after_first b ∙ ap utf8_after (sym partial)

-- the state after a byte, where more than one is needed
abbrev pub next_of : Utf8 → ℕ → List ℕ → Utf8
next_of s b partial = record {
  needed = s.needed - 1;
  lower = 0x80;
  upper = 0xBF;
  point = s.point * 64 + (b - 0x80);
  partial = partial;
}

goes_on : (s : Utf8) (b : ℕ) → (s.needed ≡ 0 → ⊥) → (s.needed ≡ 1 → ⊥) → s.lower ≤ b → b ≤ s.upper →
    utf8 s (Some b) ≡ record { state = next_of s b (s.partial ++ b ∷ []); answer = Nothing; restored = [] }
unfolding utf8
goes_on s b some more low high = grind (arith, common_steps)

pub after_next : (s : Utf8) (b : ℕ) (partial : List ℕ) → IsUnfinishedState s → (s.needed ≡ 0 → ⊥) → (s.needed ≡ 1 → ⊥)
    → s.lower ≤ b → b ≤ s.upper → partial ≡ s.partial ++ b ∷ [] → IsUnfinishedState (next_of s b partial)
after_next s b partial is some more low high more_unfinished =
    let e = goes_on s b some more low high in
    let here : IsUnfinishedState (next_of s b (s.partial ++ b ∷ [])) =
    sym (ap (λ t. t.state) e) ∙ after_more s b is (ap (λ t. t.restored) e) in
    subst (λ z. IsUnfinishedState (next_of s b z)) (sym more_unfinished) here
