-- Worked examples of the definitions.
use Rattle.std.proofs.Common.{◌≡◌, List, [], ◌∷◌, Bool, true, false, None, Some, refl, arith}
use Rattle.std.proofs.lemmas.Option.{none-some}
use Rattle.spool_blocks.specs.Blocks.{Row, free_count, reserved_count, owned_count, is_slots, slot_count, slots_total}
use Rattle.spool_blocks.specs.Blocks.{IsInOrder}

-- slot 7 owns the blocks 0 and 3, slot 2 owns 4, block 1 is reserved and block 2 free
rows : List Row
rows = Some (7, 1) ∷ None ∷ None ∷ Some (7, 0) ∷ Some (2, 0) ∷ []

flags : List Bool
flags = false ∷ true ∷ false ∷ false ∷ false ∷ []

one_is_free : free_count rows flags ≡ 1
unfolding rows flags free_count
one_is_free = refl

one_is_reserved : reserved_count rows flags ≡ 1
unfolding rows flags reserved_count
one_is_reserved = refl

three_are_owned : owned_count rows ≡ 3
unfolding rows owned_count
three_are_owned = refl

two_are_of_slot : slot_count 7 rows ≡ 2
unfolding rows slot_count is_slots
two_are_of_slot = refl

slots_own_three : slots_total 8 rows ≡ 3
unfolding rows slots_total slot_count is_slots
slots_own_three = refl

-- slot 5 owns block 1 alone, at ordinal 7: its list is that block, and not block 0
gap : List Row
gap = None ∷ Some (5, 7) ∷ []

not_block_0 : IsInOrder 5 gap (0 ∷ []) → ⊥
unfolding gap
not_block_0 ordered = none-some (5, (ordered.owned 0 (omega arith)).0) (ordered.owned 0 (omega arith)).1

one_block : IsInOrder 5 gap (1 ∷ [])
unfolding gap
one_block = record {
  owned = λ i lt. let e : i ≡ 0 = omega (arith, lt) in (7, rw e refl);
  ascends = λ i k a b lt lt' own own'. absurd (omega (arith, lt, lt'));
}
