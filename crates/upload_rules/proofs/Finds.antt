-- Entries by their numbers.
use Rattle.std.proofs.Common.{◌≡◌, ℕ, ◌+◌, ◌<◌, List, [], ◌∷◌, ◌++◌, length, Some, None, refl, arith}
use Rattle.std.proofs.lemmas.Bool.Decides.{nat_tests}
use Rattle.upload_rules.specs.Store.{find, replaced, without}
use Rattle.upload_rules.specs.Apart.{IsApart}

-- the numbers are below this one
abbrev pub AllBelow : {A : Type 0} → ℕ → List (ℕ × A) → Type 0
AllBelow top [] = Unit {0}
AllBelow top (x ∷ xs) = (x.0 < top) × AllBelow top xs

module _ {A : Type 0} where
  pub find_push_other : (n m : ℕ) (a : A) (xs : List (ℕ × A)) → (m ≡ n → ⊥) → find n (xs ++ (m, a) ∷ []) ≡ find n xs
  find_push_other n m a [] ne = grind (arith, nat_tests)
  find_push_other n m a (x ∷ xs) ne = let ih = find_push_other n m a xs ne in grind (arith, nat_tests)

  pub find_without_other : (d e : ℕ) (xs : List (ℕ × A)) → (d ≡ e → ⊥) → find e (without d xs) ≡ find e xs
  find_without_other d e [] ne = refl
  find_without_other d e (x ∷ xs) ne = let ih = find_without_other d e xs ne in grind (arith, nat_tests)

  pub none_without : (d e : ℕ) (xs : List (ℕ × A)) → find e xs ≡ None → find e (without d xs) ≡ None
  none_without d e [] h = refl
  none_without d e (x ∷ xs) h = let ih = none_without d e xs in grind (arith, nat_tests)

  pub find_without_same : (d : ℕ) (xs : List (ℕ × A)) → IsApart xs → find d (without d xs) ≡ None
  find_without_same d [] apart = refl
  find_without_same d (x ∷ xs) apart = let ih = find_without_same d xs apart.1 in let first =
      apart.0 in grind (arith, nat_tests)

  pub find_replaced_same : (d : ℕ) (a b : A) (xs : List (ℕ × A)) → find d xs ≡ Some a
      → find d (replaced d b xs) ≡ Some b
  find_replaced_same d a b [] h = absurd cc
  find_replaced_same d a b (x ∷ xs) h = let ih = find_replaced_same d a b xs in grind (arith, nat_tests)

  pub find_replaced_other : (d e : ℕ) (b : A) (xs : List (ℕ × A)) → (d ≡ e → ⊥) → find e (replaced d b xs) ≡ find e xs
  find_replaced_other d e b [] ne = refl
  find_replaced_other d e b (x ∷ xs) ne = let ih = find_replaced_other d e b xs ne in grind (arith, nat_tests)

  pub none_replaced : (d e : ℕ) (b : A) (xs : List (ℕ × A)) → find e xs ≡ None → find e (replaced d b xs) ≡ None
  none_replaced d e b [] h = refl
  none_replaced d e b (x ∷ xs) h = let ih = none_replaced d e b xs in grind (arith, nat_tests)

  pub length_replaced : (d : ℕ) (b : A) (xs : List (ℕ × A)) → length (replaced d b xs) ≡ length xs
  length_replaced d b [] = refl
  length_replaced d b (x ∷ xs) = let ih = length_replaced d b xs in grind (arith, nat_tests)

  pub length_without : (d : ℕ) (a : A) (xs : List (ℕ × A)) → find d xs ≡ Some a → length (without d xs) + 1 ≡ length xs
  length_without d a [] h = absurd cc
  length_without d a (x ∷ xs) h = let ih = length_without d a xs in grind (arith, nat_tests)

  -- what is there has one of the numbers
  pub found_below : (n top : ℕ) (a : A) (xs : List (ℕ × A)) → AllBelow top xs → find n xs ≡ Some a → n < top
  found_below n top a [] all h = absurd cc
  found_below n top a (x ∷ xs) all h = let ih = found_below n top a xs all.1 in let first =
      all.0 in grind (arith, nat_tests)

  -- what is there, put in its place
  pub replaced_same : (n : ℕ) (a : A) (xs : List (ℕ × A)) → find n xs ≡ Some a → replaced n a xs ≡ xs
  replaced_same n a [] h = refl
  replaced_same n a (x ∷ xs) h = let ih = replaced_same n a xs in grind (arith, nat_tests)
