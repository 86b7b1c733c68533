-- Places in a list of slots whose numbers rise.
use Rattle.std.proofs.Common.{◌≡◌, ℕ, ◌+◌, ◌-◌, ◌<◌, ◌≤◌, true, false, List, [], ◌∷◌, length, get_or, slice_index}
use Rattle.std.proofs.Common.{Option, sym, ◌∙◌, ap, arith, inl, inr, leb, eqb, MatchOption}
use Rattle.std.specs.Bool.{then_some}
use Rattle.std.proofs.lemmas.Bool.{leb-true, leb-false, eqb-true, eqb-false, cases_Bool, cases_order}
use Rattle.std.proofs.lemmas.List.{get_or-map, length-map}
use Rattle.std.specs.List.Sorted.{IsNonDecreasingBy, IsPartitionPoint}
use Rattle.upload_rules.specs.declared.slot.Slot.{Slot}
use Rattle.upload_rules.specs.Slots.{slot_number_of, numbers, IsRising, IsDivided, IsFirstAt, IsNowhere}

-- some slot, where there is a place
pub slot_there : (slots : List Slot) (k : ℕ) → k < length slots → Slot
slot_there [] k lt = absurd (omega arith)
slot_there (s ∷ slots) k lt = s

pub number_at : (slots : List Slot) (k : ℕ) (d : Slot) → k < length slots
    → slice_index (numbers slots) k ≡ slot_number_of (get_or slots k d)
number_at slots k d lt = get_or-map slot_number_of slots k d 0 lt

pub count_of : (slots : List Slot) → length (numbers slots) ≡ length slots
count_of slots = length-map slots slot_number_of

pub not_falling : (slots : List Slot) → IsRising (numbers slots) → IsNonDecreasingBy slot_number_of slots
not_falling slots rising i j d le lt =
    grind (arith, number_at slots i d, number_at slots j d, rising i j, count_of slots, cases_order i j)

-- where the slots of numbers up to n end
pub divided : (slots : List Slot) (n place : ℕ) → place ≤ length slots
    → IsPartitionPoint (λ s. leb (slot_number_of s) n ≡ true) (λ s. leb (slot_number_of s) n ≡ false) slots place
    → IsDivided (numbers slots) n place
divided slots n place within point = record {
  within = omega (arith, count_of slots);
  before = λ k lt. (
      let inside : k < length slots = omega arith in
      let d = slot_there slots k inside in
      let p = leb-true (slot_number_of (get_or slots k d)) n (point.0 k d (omega arith) lt) in
      omega (arith, p, number_at slots k d inside));
  after = λ k le lt. (
      let inside : k < length slots = omega (arith, count_of slots) in
      let d = slot_there slots k inside in
      let p = leb-false (slot_number_of (get_or slots k d)) n (point.1 k d le inside) in
      omega (arith, p, number_at slots k d inside));
}

module _ (ns : List ℕ) (n : ℕ) (rising : IsRising ns) where
  -- the last place of a number up to n has n, or none has
  pub first_at : (place : ℕ) → place < length ns → slice_index ns place ≡ n → IsFirstAt ns n place
  first_at place lt here = record {
    within = lt;
    here = here;
    before = λ k less same. (let r = rising k place less lt in omega (arith, r, same, here));
  }

  pub nowhere : (end : ℕ) → IsDivided ns n end → ((place : ℕ) → place + 1 ≡ end → slice_index ns place ≡ n → ⊥)
      → IsNowhere ns n
  nowhere end parts other k lt same =
      grind (
        arith,
        cases_order k (end - 1),
        other k,
        rising k (end - 1),
        parts.within,
        parts.before (end - 1),
        parts.after k,
      )

-- the slot before that place is the number's, or there is none
pub place_found : (slots : List Slot) (n place end : ℕ) (s : Slot) (answer : Option ℕ) → IsRising (numbers slots)
    → IsDivided (numbers slots) n end
    → place + 1 ≡ end → place < length slots → answer ≡ then_some (eqb (slot_number_of (get_or slots place s)) n) place
    → MatchOption answer (IsNowhere (numbers slots) n) (IsFirstAt (numbers slots) n)
place_found slots n place end s answer rising parts next lt is =
    let here = number_at slots place s lt in
    elim (cases_Bool (eqb (slot_number_of (get_or slots place s)) n)) [
      | inl same ↦ rw (is, same)
          (first_at (numbers slots) n rising place (omega (arith, count_of slots, lt)) (here ∙ eqb-true _ n same))
      | inr other ↦ rw (is, other) (nowhere (numbers slots) n rising end parts (λ k before same. eqb-false _ n other
          (let k_is : place ≡ k = omega (arith, before, next) in sym here ∙ ap (slice_index (numbers slots)) k_is
          ∙ same)))
    ]
