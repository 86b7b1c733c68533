-- The bytes from a place on.
use Rattle.std.proofs.Common.{◌≡◌, ◌⊎◌, inl, inr, ℕ, zero, suc, ◌+◌, ◌<◌, List, [], ◌∷◌, length, get_or, refl, subst}
use Rattle.std.proofs.Common.{arith}
use Rattle.std.proofs.lemmas.Bool.{cases_lt}
use Rattle.spool_disk.specs.Disk.{span, In}

cons_eq : {x y : ℕ} {xs ys : List ℕ} → x ≡ y → xs ≡ ys → x ∷ xs ≡ y ∷ ys
cons_eq e f = cc

pub length-span : (f : ℕ → ℕ) (at n : ℕ) → length (span f at n) ≡ n
unfolding span
length-span f at zero = refl
length-span f at (suc n) = omega (arith, length-span f (at + 1) n)

-- where two agree on the range
pub span_same : (f g : ℕ → ℕ) (at n : ℕ) → ((p : ℕ) → In at n p → f p ≡ g p) → span f at n ≡ span g at n
unfolding span
span_same f g at zero same = refl
span_same f g at (suc n) same = cons_eq (same at record { from = omega arith; below = omega arith })
    (span_same f g (at + 1) n
    (λ p within. same p record { from = omega (arith, within.from); below = omega (arith, within.below) }))

-- bytes by index
pub span_is : (f : ℕ → ℕ) (at : ℕ) (xs : List ℕ) → ((k : ℕ) → k < length xs → f (at + k) ≡ get_or xs k 0)
    → span f at (length xs) ≡ xs
unfolding span
span_is f at [] here = refl
span_is f at (x ∷ xs) here =
    let first : f (at + 0) ≡ x = here 0 (omega arith) in
    let at_eq : at + 0 ≡ at = omega arith in
    cons_eq (subst (λ (n : ℕ). f n ≡ x) at_eq first)
    (span_is f (at + 1) xs (λ k lt.
    let e : at + suc k ≡ at + 1 + k = omega arith in
    let h : f (at + suc k) ≡ get_or xs k 0 = here (suc k) (omega arith) in
    subst (λ (n : ℕ). f n ≡ get_or xs k 0) e h))

pub in_or_out : (at n p : ℕ) → In at n p ⊎ (In at n p → ⊥)
in_or_out at n p = elim (cases_lt p at) [
  | inl under ↦ inr (λ within. omega (arith, within.from))
  | inr from ↦ elim (cases_lt p (at + n)) [
    | inl below ↦ inl record { from = from; below = below }
    | inr over ↦ inr (λ within. omega (arith, within.below))
  ]
]
