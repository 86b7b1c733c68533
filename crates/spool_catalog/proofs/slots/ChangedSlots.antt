-- A changed slot of a view.
use Rattle.std.proofs.lemmas.Grind.{common_steps}
use Rattle.std.proofs.Common.{◌≡◌, ◌≢◌, ◌⊎◌, ℕ, ◌<◌, ◌≤◌, List, Option, None, Some, length, get_or, set}
use Rattle.std.proofs.Common.{sym, ◌∙◌, arith}
use Rattle.std.proofs.lemmas.List.{get_or-set_other, get_or-set_same}
use Rattle.std.proofs.lemmas.Option.{same_Some}
use Rattle.spool_pages.specs.View.{SlotRecord}
use Rattle.spool_catalog.specs.Shows.{IsValidRecord}

pub clash : {A X : Type 0} {o : Option A} {a : A} → o ≡ None → o ≡ Some a → X
clash none some = cc

pub one_value : {A : Type 0} {o : Option A} {a b : A} → o ≡ Some a → o ≡ Some b → a ≡ b
one_value {a = a} {b = b} e f = same_Some a b (sym e ∙ f)

-- ANOTHER RECORD IN A SLOT, or none

module _ (slots : List (Option SlotRecord)) (slot : ℕ) (o : Option SlotRecord) where
  pub slot_here : slot < length slots → get_or (set slots slot o) slot None ≡ o
  slot_here lt = get_or-set_same slots slot o None lt

  pub slot_else : (s : ℕ) → s ≢ slot → get_or (set slots slot o) s None ≡ get_or slots s None
  slot_else s other = get_or-set_other slots slot s o None other

  -- a record of the changed slots is the new one, or was there in another slot
  pub slot_is : (s : ℕ) (q : SlotRecord) → slot < length slots → get_or (set slots slot o) s None ≡ Some q
      → ((s ≡ slot) × (o ≡ Some q)) ⊎ ((s ≢ slot) × (get_or slots s None ≡ Some q))
  slot_is s q lt e = search (arith, common_steps)

pub record_is : (slots : List (Option SlotRecord)) (slot : ℕ) (r : SlotRecord) (s : ℕ) (q : SlotRecord)
    → slot < length slots → get_or (set slots slot (Some r)) s None ≡ Some q
    → ((s ≡ slot) × (q ≡ r)) ⊎ ((s ≢ slot) × (get_or slots s None ≡ Some q))
record_is slots slot r s q lt e = search (arith, common_steps)

-- a record that was valid is so with a greater next number
pub valid_more : {next next' : ℕ} {r : SlotRecord} → next ≤ next' → IsValidRecord next r → IsValidRecord next' r
valid_more {next' = next'} {r = r} more is = search (arith, common_steps)
