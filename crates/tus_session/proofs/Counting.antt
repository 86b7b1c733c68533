-- Counted failures, over one call after another.
use Rattle.std.proofs.Common.{◌≡◌, inl, inr, ℕ, arith}
use Rattle.std.proofs.lemmas.Bool.{cases_lt}
use Rattle.upload_rules.specs.Answers.{Counts}

-- a call that didn't fail isn't counted
pub uncounted : {failed : Type 0} {a b : ℕ} → (failed → ⊥) → Counts failed a b → b ≡ a
uncounted {a = a} {b = b} never counts =
    elim (cases_lt a b) as (λ _. b ≡ a)
    [ inl less ↦ absurd (never (counts.nothing_else less)) | inr most ↦ omega (arith, counts.later) ]
