-- How many connections are open, and how many ended.
use Rattle.std.specs.Prelude.{◌≡◌, ◌+◌, ℕ, List, [], ◌∷◌, length}
use Rattle.gateway_serve.specs.declared.sockets.Seen.{Seen}
use Rattle.gateway_serve.specs.declared.places.Place.{Place}
use Rattle.gateway_serve.specs.declared.places.Place.TheVariants.{Free, Open}
use Rattle.gateway_serve.specs.declared.reasons.Reason.{Reason}
use Rattle.gateway_serve.specs.declared.reasons.Reason.TheVariants.{Closed, Lost, Over}

-- HOW MANY CONNECTIONS are open at these places
abbrev pub one_if_open : {S : Type 0} → Place S → ℕ
one_if_open Free = 0
one_if_open (Open l) = 1

unfoldable pub open_in : {S : Type 0} → List (Place S) → ℕ
open_in [] = 0
open_in (p ∷ places) = one_if_open p + open_in places

-- places and the sockets that ended, to which each connection that isn't open any more has added its own
abbrev pub Adds : {S : Type 0} → List (Place S) → List (Place S) → List Seen → List Seen → Type 0
Adds places places' ended ended' = length ended' + open_in places' ≡ length ended + open_in places

-- HOW MANY ENDED before serving was over
abbrev pub one_before : Reason → ℕ
one_before Closed = 1
one_before (Lost gone) = 1
one_before Over = 0

unfoldable pub count_closed : List Seen → ℕ
count_closed [] = 0
count_closed (s ∷ ended) = one_before s.reason + count_closed ended
