-- Which connection has been between requests longest.
use Rattle.std.specs.Prelude.{◌≡◌, ◌<◌, ◌≤◌, ℕ, List, Option, Some, None, IfSome, get_or}
use Rattle.std.specs.Duration.{as_nanos}
use Rattle.std.specs.declared.time.Duration.{Duration}
use Rattle.gateway_serve.specs.Joined.{at_of}
use Rattle.gateway_serve.specs.declared.stays.At.{At}
use Rattle.gateway_serve.specs.declared.stays.At.TheVariants.{Between, Head, Body, Reply}
use Rattle.gateway_serve.specs.declared.rounds.Pause.{Pause}
use Rattle.gateway_serve.specs.declared.links.Link.{Link}
use Rattle.gateway_serve.specs.declared.places.Place.{Place}
use Rattle.gateway_serve.specs.declared.places.Place.TheVariants.{Free, Open}

-- since when a connection has been between requests, if it is
abbrev pub if_between : At → Duration → Option Duration
if_between Between moved = Some moved
if_between Head moved = None
if_between Body moved = None
if_between Reply moved = None

abbrev pub link_between_since : {S : Type 0} → Link S → Option Duration
link_between_since l = if_between (at_of l) l.socket.spell.moved

abbrev pub between_since : {S : Type 0} → Place S → Option Duration
between_since Free = None
between_since (Open l) = link_between_since l

-- as a pause of the connection with this number
abbrev pub pause_of : ℕ → Option Duration → Option Pause
pause_of n None = None
pause_of n (Some since) = Some (record { conn = n; since = since })

-- a pause that began no later than another, if there is one
abbrev pub BeganBy : Option Pause → Option Duration → Type 0
BeganBy pause None = Unit {0}
BeganBy None (Some since) = ⊥
BeganBy (Some pause) (Some since) = as_nanos pause.since ≤ as_nanos since

abbrev pub since_of : Option Pause → Option Duration
since_of None = None
since_of (Some pause) = Some pause.since

-- THE LONGEST PAUSE of the first so many places, if there is one: it is that of its place, and none began before
abbrev pub IsOf : {S : Type 0} → List (Place S) → ℕ → Pause → Type 0
IsOf places end pause = (pause.conn < end) × (between_since (get_or places pause.conn Free) ≡ Some pause.since)

abbrev pub NoneBefore : {S : Type 0} → List (Place S) → ℕ → Option Pause → Type 0
NoneBefore places end longest = (k : ℕ) → k < end → BeganBy longest (between_since (get_or places k Free))

abbrev pub IsLongest : {S : Type 0} → List (Place S) → ℕ → Option Pause → Type 0
IsLongest places end longest = IfSome longest (IsOf places end) × NoneBefore places end longest
