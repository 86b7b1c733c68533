-- The two truth values.
use Rattle.std.proofs.Common.{◌≡◌, ◌⊎◌, inl, inr, refl, Bool, true, false}

pub true_or_false : (v : Bool) → (v ≡ true) ⊎ (v ≡ false)
true_or_false true = inl refl
true_or_false false = inr refl
