-- Every number of a table is below the next one.
use Rattle.std.specs.Prelude.{◌≡◌, ◌<◌, ℕ, suc, List, [], ◌∷◌, Some, if◌then◌else◌}
use Rattle.std.proofs.Common.{sym, ◌∙◌, ap, arith, inl, inr}
use Rattle.std.proofs.lemmas.Bool.{cases_eq, ne_eqb}
use Rattle.enc_model.specs.Indexes.{IndexSet}
use Rattle.upload_rules.specs.declared.slot.Slot.{Slot}
use Rattle.upload_rules.specs.declared.table.Table.{Table}
use Rattle.upload_rules.specs.Store.{Upload, find, upload_of}
use Rattle.upload_rules.specs.World.{World}
use Rattle.upload_rules.specs.Slots.{numbers, IsBelow, AllRepresent}
use Rattle.upload_rules.specs.Table.{TableRepresents}

-- An upload that is found has a number below the bound.
found_below : (x : IndexSet) (top n : ℕ) (u : Upload) (us : List (ℕ × Upload)) (ss : List Slot) → AllRepresent x us ss
    → IsBelow (numbers ss) top → find n us ≡ Some u → n < top
found_below x top n u [] ss all below there = absurd cc
found_below x top n u (e ∷ us) [] all below there = absurd all
found_below x top n u (e ∷ us) (s ∷ ss) all below there =
    elim (cases_eq e.0 n) [
      | inl same ↦ (let b = below 0 (omega arith) in let is = all.0.represents.number_is in omega (arith, b, is, same))
      | inr other ↦
          found_below x top n u us ss all.1 (λ k lt. below (suc k) (omega (arith, lt)))
          (sym (ap (λ b. if b then Some e.1 else find n us) (ne_eqb e.0 n other)) ∙ there)
    ]

-- The number of each upload is below the next one.
pub upload_below : (t : Table) (w : World) → TableRepresents t w → (number : ℕ) (u : Upload)
    → upload_of w.store number ≡ Some u → number < w.store.next
upload_below t w represents number u there =
    found_below w.store.indexes w.store.next number u w.store.uploads t.slots.items represents.slots represents.below
    there
