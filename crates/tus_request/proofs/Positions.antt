-- The first place of a byte, as a search gives it.
use Rattle.std.specs.Prelude.{◌≡◌, ℕ, ◌<◌, ◌≤◌, Bool, true, false, List, length, Option, Some, None}
use Rattle.std.proofs.Common.{arith, ap, refl, get_or}
use Rattle.std.specs.List.{position, position_or_len}
use Rattle.std.proofs.lemmas.List.Quantifiers.{position-Some}
use Rattle.std.proofs.lemmas.List.Sums.{fails_before_first}
use Rattle.std.proofs.lemmas.Bool.Decides.{nat_tests}
use Rattle.common.proofs.Splits.{none_passes}
use Rattle.memchr.specs.Find.{IsFirstByte}
use Rattle.std.proofs.lemmas.Bool.{both_ways}

same_place : (p : ℕ → Bool) (xs : List ℕ) (i k : ℕ) → p (get_or xs i 0) ≡ true
    → ((j : ℕ) → j < i → p (get_or xs j 0) ≡ false) → p (get_or xs k 0) ≡ true
    → ((j : ℕ) → j < k → ¬ (p (get_or xs j 0) ≡ true)) → k ≡ i
same_place p xs i k at_i before_i at_k before_k = grind (arith, before_i, before_k)

first_is : (p : ℕ → Bool) (xs : List ℕ) (r o : Option ℕ) → position p xs ≡ o → IsFirstByte p xs r → r ≡ o
first_is p xs None None e is = refl
first_is p xs None (Some i) e is =
    let q = position-Some p xs i 0 e in absurd (is i (omega arith) q.0 q.1)
first_is p xs (Some k) None e is =
    absurd (both_ways (p (get_or xs k 0)) (none_passes p xs e k is.0.high) is.1)
first_is p xs (Some k) (Some i) e is =
    let q = position-Some p xs i 0 e in
    ap Some (same_place p xs i k q.1 q.2 is.1 (λ j l. is.0.before j (omega arith) l))

pub position_is : (p : ℕ → Bool) (xs : List ℕ) (r : Option ℕ) → IsFirstByte p xs r → r ≡ position p xs
position_is p xs r is = first_is p xs r (position p xs) refl is
