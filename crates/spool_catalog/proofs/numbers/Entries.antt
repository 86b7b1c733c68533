-- Entries of a store by their numbers.
use Rattle.std.proofs.lemmas.Grind.{common_steps}
use Rattle.std.proofs.Common.{◌≡◌, inl, inr, ℕ, zero, suc, ◌<◌, List, [], ◌∷◌, ◌++◌, None, Some, length, slice_index}
use Rattle.std.proofs.Common.{map, refl, sym, ap, subst, arith, eq-eqb}
use Rattle.std.proofs.lemmas.Bool.{cases_eq, ne_eqb}
use Rattle.std.proofs.lemmas.Bool.Decides.{nat_tests}
use Rattle.std.proofs.lemmas.List.{map-append}
use Rattle.upload_rules.specs.Store.{find, replaced}
use Rattle.upload_rules.specs.Slots.{IsRising, IsBelow}

module _ {A : Type 0} where
  pub find_push_same : (n : ℕ) (a : A) (xs : List (ℕ × A)) → find n xs ≡ None → find n (xs ++ (n, a) ∷ []) ≡ Some a
  find_push_same n a [] none = rw (eq-eqb n n refl) refl
  find_push_same n a (x ∷ xs) none = let ih = find_push_same n a xs in grind (arith, nat_tests)

  -- each place's number is found, there or before it
  pub number_found : (xs : List (ℕ × A)) (k : ℕ) → k < length xs
      → (a : A) × (find (slice_index (map (λ e. e.0) xs) k) xs ≡ Some a)
  number_found [] k lt = absurd (omega (arith, lt))
  number_found (x ∷ xs) zero lt = (x.1, rw (eq-eqb x.0 x.0 refl) refl)
  number_found (x ∷ xs) (suc k) lt =
      let rest = number_found xs k (omega (arith, lt)) in
      elim (cases_eq x.0 (slice_index (map (λ e. e.0) xs) k)) [
        | inl same ↦ (x.1, rw (eq-eqb x.0 (slice_index (map (λ e. e.0) xs) k) same) refl)
        | inr other ↦ (rest.0, rw (ne_eqb x.0 (slice_index (map (λ e. e.0) xs) k) other) rest.1)
      ]

  pub length-numbers : (xs : List (ℕ × A)) → length (map (λ e. e.0) xs) ≡ length xs
  length-numbers [] = refl
  length-numbers (x ∷ xs) = omega (arith, length-numbers xs)

  -- another value at a number changes no number
  pub numbers_replaced : (n : ℕ) (a : A) (xs : List (ℕ × A)) → map (λ e. e.0) (replaced n a xs) ≡ map (λ e. e.0) xs
  numbers_replaced n a [] = refl
  numbers_replaced n a (x ∷ xs) = elim (cases_eq x.0 n) [
    | inl same ↦ rw (eq-eqb x.0 n same) (ap (λ (k : ℕ). k ∷ map (λ e. e.0) xs) (sym same))
    | inr other ↦ rw (ne_eqb x.0 n other) (ap (λ (ks : List ℕ). x.0 ∷ ks) (numbers_replaced n a xs))
  ]

  -- a new entry is one of the greatest number
  pub rising_more : (xs : List (ℕ × A)) (n : ℕ) (a : A) → IsRising (map (λ e. e.0) xs)
      → ((k : ℕ) (b : A) → find k xs ≡ Some b → k < n) → IsRising (map (λ e. e.0) (xs ++ (n, a) ∷ []))
  rising_more xs n a rising below =
      subst IsRising (sym (map-append (λ e. e.0) xs ((n, a) ∷ []))) (pushed (map (λ e. e.0) xs) rising (λ k lt.
      let there = number_found xs k (omega (arith, lt, length-numbers xs)) in below (slice_index (map (λ e. e.0) xs) k)
      there.0 there.1))
    where
      pushed : (ns : List ℕ) → IsRising ns → IsBelow ns n → IsRising (ns ++ n ∷ [])
      pushed ns up under i j lt inside = search (arith, common_steps)
