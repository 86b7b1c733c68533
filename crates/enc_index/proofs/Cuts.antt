-- What follows the first mark of a text.
use Rattle.std.proofs.Common.{◌≡◌, ℕ, ◌+◌, ◌-◌, ◌<◌, ◌≤◌, List, [], ◌∷◌, length, take, drop, Some, None, suc, refl}
use Rattle.std.proofs.Common.{arith, inl, inr, ◌==◌, add-one}
use Rattle.std.proofs.lemmas.Bool.{cases_Bool}
use Rattle.std.proofs.lemmas.List.{take_all, length-drop}
use Rattle.common.specs.Splits.{before}
use Rattle.enc_index.specs.Files.{rest_if_any}

rest_from : (mark : ℕ) (text : List ℕ) → length (before mark text) < length text
    → rest_if_any mark text ≡ Some (drop (suc (length (before mark text))) text)
unfolding rest_if_any
rest_from mark [] h = absurd (omega arith)
rest_from mark (b ∷ text) h =
    elim (cases_Bool (b == mark)) [
      | inl t ↦ rw t
      | inr f ↦ rw f (rest_from mark text (grind (arith, f, h)))
    ]

-- a slice to the end
pub rest_here : (mark : ℕ) (text first : List ℕ) → first ≡ before mark text → length first < length text
    → rest_if_any mark text ≡ Some (take (length text - (length first + 1)) (drop (length first + 1) text))
rest_here mark text first e h =
    rw (
      take_all (length text - (length first + 1)) (drop (length first + 1) text)
          (omega (arith, length-drop (length first + 1) text)),
      e,
      add-one,
    ) (rest_from mark text (grind (arith, e, h)))

pub rest_nowhere : (mark : ℕ) (text first : List ℕ) → first ≡ before mark text → length text ≤ length first
    → rest_if_any mark text ≡ None
unfolding rest_if_any
rest_nowhere mark [] first e h = refl
rest_nowhere mark (b ∷ text) first e h =
    elim (cases_Bool (b == mark)) [
      | inl t ↦ absurd (grind (arith, t, e, h))
      | inr f ↦ rw f (rest_nowhere mark text _ refl (grind (arith, f, e, h)))
    ]
