-- What is in a list of blocks.
use Rattle.std.proofs.lemmas.Grind.{common_steps}
use Rattle.std.proofs.Common.{◌≡◌, ◌≢◌, ◌⊎◌, inl, inr, ℕ, zero, suc, ◌<◌, List, [], ◌∷◌, length, get_or, arith}
use Rattle.std.proofs.lemmas.Bool.{cases_eq}
use Rattle.spool_blocks.specs.Blocks.{Held}
use Rattle.spool_texts.specs.Drafts.{IsReserved}

abbrev pub IsOut : List ℕ → ℕ → Type 0
IsOut list b = (i : ℕ) → i < length list → get_or list i 0 ≢ b

-- the block's place in the list
pub record HasPlace (list : List ℕ) (b : ℕ) : Type 0 where
  pub at : ℕ
  pub below : at < length list
  pub here : get_or list at 0 ≡ b

pub place_or_out : (list : List ℕ) (b : ℕ) → HasPlace list b ⊎ IsOut list b
place_or_out [] b = inr (λ i lt e. omega (arith, lt))
place_or_out (x ∷ list) b =
    elim (cases_eq x b) [
      | inl here ↦ inl (record { at = 0; below = omega arith; here = here })
      | inr other ↦ elim (place_or_out list b) [
        | inl there ↦ inl (record { at = suc there.at; below = omega (arith, there.below); here = there.here })
        | inr out ↦ inr (λ i lt e. away i lt e other out)
      ]
    ]
  where
    away : (i : ℕ) → i < length (x ∷ list) → get_or (x ∷ list) i 0 ≡ b → (x ≡ b → ⊥) → IsOut list b → ⊥
    away zero lt e other out = other e
    away (suc i) lt e other out = out i (omega (arith, lt)) e

pub nothing_reserved : (h : Held) (list : List ℕ) → list ≡ [] → IsReserved h list
nothing_reserved h list none = search (arith, common_steps)
