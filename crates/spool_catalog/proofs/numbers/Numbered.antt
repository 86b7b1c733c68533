-- The upload of the least number above another.
use Rattle.std.proofs.lemmas.Grind.{common_steps}
use Rattle.std.proofs.Common.{◌≡◌, inl, inr, ℕ, suc, ◌<◌, ◌≤◌, List, [], ◌∷◌, length, map, slice_index, None, Some}
use Rattle.std.proofs.Common.{refl, sym, ◌∙◌, subst, arith}
use Rattle.std.proofs.lemmas.Bool.{cases_eq, cases_lt}
use Rattle.std.proofs.lemmas.Bool.Decides.{nat_tests}
use Rattle.upload_rules.specs.Store.{Upload, find}
use Rattle.upload_rules.specs.Records.{above}
use Rattle.upload_rules.specs.Slots.{IsRising}
use Rattle.spool_catalog.proofs.slots.ChangedSlots.{clash}

abbrev pub numbers : List (ℕ × Upload) → List ℕ
numbers xs = map (λ (e : ℕ × Upload). e.0) xs

find_here : (x : ℕ × Upload) (xs : List (ℕ × Upload)) (j : ℕ) → x.0 ≡ j → find j (x ∷ xs) ≡ Some x.1
find_here x xs j same = grind (arith, nat_tests)

find_past : (x : ℕ × Upload) (xs : List (ℕ × Upload)) (j : ℕ) → (x.0 ≡ j → ⊥) → find j (x ∷ xs) ≡ find j xs
find_past x xs j other = grind (arith, nat_tests)

above_past : (x : ℕ × Upload) (xs : List (ℕ × Upload)) (n : ℕ) → x.0 ≤ n → above n (x ∷ xs) ≡ above n xs
above_past x xs n le = grind (arith, nat_tests)

rising_tail : (x : ℕ × Upload) (xs : List (ℕ × Upload)) → IsRising (numbers (x ∷ xs)) → IsRising (numbers xs)
rising_tail x xs rising i k lt below = rising (suc i) (suc k) (omega (arith, lt)) (omega (arith, below))

-- what is found has a place
pub found_at : (xs : List (ℕ × Upload)) (k : ℕ) (u : Upload) → find k xs ≡ Some u
    → (i : ℕ) × (i < length (numbers xs)) × (slice_index (numbers xs) i ≡ k)
found_at [] k u found = clash refl found
found_at (x ∷ xs) k u found = elim (cases_eq x.0 k) [
  | inl same ↦ (0, omega arith, same)
  | inr other ↦
      let rest = found_at xs k u (sym (find_past x xs k other) ∙ found) in
      (suc rest.0, (let lt = rest.1 in omega (arith, lt)), rest.2)
]

found_above : (x : ℕ × Upload) (xs : List (ℕ × Upload)) → IsRising (numbers (x ∷ xs)) → (k : ℕ) (u : Upload)
    → find k xs ≡ Some u → x.0 < k
found_above x xs rising k u found =
    let at = found_at xs k u found in
    let lt = at.1 in
    let less = rising 0 (suc at.0) (omega arith) (omega (arith, lt)) in
    subst (λ (m : ℕ). x.0 < m) at.2 less

pub above_is : (xs : List (ℕ × Upload)) → IsRising (numbers xs) → (n k : ℕ) (u : Upload) → n < k → find k xs ≡ Some u
    → ((j : ℕ) (w : Upload) → n < j → find j xs ≡ Some w → k ≤ j) → above n xs ≡ Some (k, u)
above_is [] rising n k u lt found least = clash refl found
above_is (x ∷ xs) rising n k u lt found least = elim (cases_lt n x.0) [
  | inl over ↦ elim (cases_eq x.0 k) [
    | inl same ↦ search (arith, common_steps)
    | inr other ↦
        let le = least x.0 x.1 over (find_here x xs x.0 refl) in
        let more = found_above x xs rising k u (sym (find_past x xs k other) ∙ found) in
        absurd (omega (arith, le, more))
  ]
  | inr under ↦
      let other : x.0 ≡ k → ⊥ = λ same. omega (arith, under, lt, same) in
      above_past x xs n under
      ∙ above_is xs (rising_tail x xs rising) n k u lt (sym (find_past x xs k other) ∙ found) (λ j w over here.
      let past : x.0 ≡ j → ⊥ = λ same. omega (arith, under, over, same) in
      least j w over (find_past x xs j past ∙ here))
]

pub above_none : (xs : List (ℕ × Upload)) (n : ℕ) → ((j : ℕ) (w : Upload) → n < j → find j xs ≡ Some w → ⊥)
    → IsRising (numbers xs) → above n xs ≡ None
above_none [] n free rising = refl
above_none (x ∷ xs) n free rising = elim (cases_lt n x.0) [
  | inl over ↦ absurd (free x.0 x.1 over (find_here x xs x.0 refl))
  | inr under ↦ above_past x xs n under ∙ above_none xs n (λ j w over here.
      let past : x.0 ≡ j → ⊥ = λ same. omega (arith, under, over, same) in
      free j w over (find_past x xs j past ∙ here)) (rising_tail x xs rising)
]
