-- The longest pause.
use Rattle.std.proofs.Common.{◌≡◌, ◌⊎◌, inl, inr, ℕ, ◌+◌, List, Option, Some, None, get_or, sym, arith}
use Rattle.std.proofs.lemmas.Bool.{cases_eq}
use Rattle.std.specs.Prelude.{IfSome}
use Rattle.std.specs.declared.time.Duration.{Duration}
use Rattle.gateway_serve.specs.Longest.{between_since, pause_of, since_of, BeganBy, IsOf, IsLongest}
use Rattle.gateway_serve.specs.declared.rounds.Pause.{Pause}
use Rattle.gateway_serve.specs.declared.places.Place.{Place}
use Rattle.gateway_serve.specs.declared.places.Place.TheVariants.{Free}

-- what began by one that began by another began by that
began_by : (pause known : Option Pause) (since : Option Duration) → BeganBy pause (since_of known) → BeganBy known since
    → BeganBy pause since
began_by pause known None a b = tt
began_by pause None (Some since) a b = absurd b
began_by None (Some known) (Some since) a b = absurd a
began_by (Some pause) (Some known) (Some since) a b = omega (arith, a, b)

module _ {S : Type 0} (places : List (Place S)) (n : ℕ) where
  still_of : (known : Option Pause) → IfSome known (IsOf places n) → IfSome known (IsOf places (n + 1))
  still_of None is = tt
  still_of (Some pause) is = (omega (arith, is.0), is.1)

  here_of : (since : Option Duration) → between_since (get_or places n Free) ≡ since
      → IfSome (pause_of n since) (IsOf places (n + 1))
  here_of None e = tt
  here_of (Some since) e = (omega (arith), e)

  -- after one more place
  pub longest_on : (known result : Option Pause) (since : Option Duration)
      → since ≡ between_since (get_or places n Free)
      → (result ≡ known) ⊎ (result ≡ pause_of n since) → BeganBy result (since_of known) → BeganBy result since
      → IsLongest places n known → IsLongest places (n + 1) result
  longest_on known result since e one before other is = (
    elim one [
      | inl same ↦ rw same (still_of known is.0)
      | inr here ↦ rw here (here_of since (sym e))
    ],
    λ k below. elim (cases_eq k n) [
      | inl same ↦ rw (same, ← e) other
      | inr ne ↦ began_by result known (between_since (get_or places k Free)) before (is.1 k (omega (arith, below, ne)))
    ],
  )
