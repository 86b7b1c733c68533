-- The entries of other numbers stay in their order.
use Rattle.std.proofs.Common.{ℕ, zero, suc, ◌<◌, List, [], ◌∷◌, length, slice_index, map, arith, inl, inr, eq-eqb}
use Rattle.std.proofs.lemmas.Bool.{cases_eq, ne_eqb}
use Rattle.upload_rules.specs.Slots.{IsRising}
use Rattle.upload_rules.specs.Store.{others}

-- all numbers are above this one
abbrev AreAbove : {A : Type 0} → ℕ → List (ℕ × A) → Type 0
AreAbove n [] = Unit {0}
AreAbove n (x ∷ xs) = (n < x.0) × AreAbove n xs

-- and each is below those after it
abbrev Ascends : {A : Type 0} → List (ℕ × A) → Type 0
Ascends [] = Unit {0}
Ascends (x ∷ xs) = AreAbove x.0 xs × Ascends xs

module _ {A : Type 0} where
  above_each : (n : ℕ) (xs : List (ℕ × A)) → AreAbove n xs
      → (k : ℕ) → k < length (map (λ e. e.0) xs) → n < slice_index (map (λ e. e.0) xs) k
  above_each n [] above k lt = absurd (omega (arith, lt))
  above_each n (x ∷ xs) above zero lt = above.0
  above_each n (x ∷ xs) above (suc k) lt = above_each n xs above.1 k (omega (arith, lt))

  each_above : (n : ℕ) (xs : List (ℕ × A))
      → ((k : ℕ) → k < length (map (λ e. e.0) xs) → n < slice_index (map (λ e. e.0) xs) k) → AreAbove n xs
  each_above n [] each = tt
  each_above n (x ∷ xs) each = (each 0 (omega arith), each_above n xs (λ k lt. each (suc k) (omega (arith, lt))))

  ascends : (xs : List (ℕ × A)) → IsRising (map (λ e. e.0) xs) → Ascends xs
  ascends [] rising = tt
  ascends (x ∷ xs) rising = (
    each_above x.0 xs (λ k lt. rising 0 (suc k) (omega arith) (omega (arith, lt))),
    ascends xs (λ i k less lt. rising (suc i) (suc k) (omega (arith, less)) (omega (arith, lt))),
  )

  rises : (xs : List (ℕ × A)) → Ascends xs → IsRising (map (λ e. e.0) xs)
  rises [] up i k less lt = absurd (omega (arith, lt))
  rises (x ∷ xs) up i zero less lt = absurd (omega (arith, less))
  rises (x ∷ xs) up zero (suc k) less lt = above_each x.0 xs up.0 k (omega (arith, lt))
  rises (x ∷ xs) up (suc i) (suc k) less lt = rises xs up.1 i k (omega (arith, less)) (omega (arith, lt))

  others_above : (n top : ℕ) (xs : List (ℕ × A)) → AreAbove top xs → AreAbove top (others n xs)
  others_above n top [] above = tt
  others_above n top (x ∷ xs) above = elim (cases_eq x.0 n) [
    | inl same ↦ rw (eq-eqb x.0 n same) (others_above n top xs above.1)
    | inr other ↦ rw (ne_eqb x.0 n other) (above.0, others_above n top xs above.1)
  ]

  others_ascend : (n : ℕ) (xs : List (ℕ × A)) → Ascends xs → Ascends (others n xs)
  others_ascend n [] up = tt
  others_ascend n (x ∷ xs) up = elim (cases_eq x.0 n) [
    | inl same ↦ rw (eq-eqb x.0 n same) (others_ascend n xs up.1)
    | inr other ↦ rw (ne_eqb x.0 n other) (others_above n x.0 xs up.0, others_ascend n xs up.1)
  ]

  pub others_rise : (n : ℕ) (xs : List (ℕ × A)) → IsRising (map (λ e. e.0) xs) → IsRising (map (λ e. e.0) (others n xs))
  others_rise n xs rising = rises (others n xs) (others_ascend n xs (ascends xs rising))
