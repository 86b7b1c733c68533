-- Marks of places.
use Rattle.std.proofs.Common.{◌≡◌, ℕ, zero, suc, ◌<◌, List, [], ◌∷◌, Bool, true, false, length, get_or, arith}

-- a place that is marked is within the list
pub below_length : (marks : List Bool) (p : ℕ) → get_or marks p false ≡ true → p < length marks
below_length [] p is = absurd cc
below_length (mark ∷ marks) zero is = omega arith
below_length (mark ∷ marks) (suc p) is = omega (arith, below_length marks p is)
