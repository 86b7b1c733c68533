-- How long a connection has its place.
use Rattle.std.specs.Prelude.{◌≡◌, ◌⊎◌, ℕ, ◌<◌, ◌≤◌, ◌-◌, ◌/◌, ◌==◌, ◌&&◌, min, Bool, true, false}
use Rattle.std.specs.Duration.{as_nanos}
use Rattle.std.specs.declared.time.Duration.{Duration}
use Rattle.gateway_serve.specs.declared.stays.Stay.{Stay}
use Rattle.gateway_serve.specs.declared.stays.At.{At}
use Rattle.gateway_serve.specs.declared.stays.At.TheVariants.{Between, Head, Body, Reply}
use Rattle.gateway_serve.specs.declared.stays.TheConstants.{LEAST_SPEED, LONGEST_IDLE, LONGEST_SLOW}
use Rattle.gateway_serve.specs.declared.stays.TheConstants.{SHORTEST_PAUSE, SHORTEST_STAY}

-- the whole seconds and milliseconds from one time to another
abbrev pub seconds_from : Duration → Duration → ℕ
seconds_from since now = (as_nanos now - as_nanos since) / 1_000_000_000

abbrev pub millis_from : Duration → Duration → ℕ
millis_from since now = (as_nanos now - as_nanos since) / 1_000_000

-- WHATEVER THE OTHERS DO: nothing came or went for a minute, or the head of a request isn't whole after one
abbrev pub HasIdledAt : At → Stay → Type 0
HasIdledAt Between s = LONGEST_IDLE ≤ seconds_from s.moved s.time
HasIdledAt Head s = LONGEST_IDLE ≤ seconds_from s.begun s.time
HasIdledAt Body s = LONGEST_IDLE ≤ seconds_from s.moved s.time
HasIdledAt Reply s = LONGEST_IDLE ≤ seconds_from s.moved s.time

abbrev pub HasIdled : Stay → Type 0
HasIdled s = HasIdledAt s.at s

-- no other has been between requests longer, and it has been so for 20 milliseconds
abbrev pub HasPaused : Stay → Type 0
HasPaused s = (s.longest ≡ true) × (SHORTEST_PAUSE ≤ millis_from s.moved s.time)

-- its request brought less than the least speed, in bytes a second, for two seconds or more, and less than as many
-- bytes in each of its turns
abbrev pub IsSlow : Stay → Type 0
IsSlow s =
    (LONGEST_SLOW ≤ seconds_from s.since s.time) × (s.brought / LEAST_SPEED < min (seconds_from s.since s.time) s.turns)

-- it has had its place for ten seconds, and a socket waits for one
abbrev pub HasStayed : Stay → Type 0
HasStayed s = (s.wanted ≡ true) × (SHORTEST_STAY ≤ seconds_from s.opened s.time)

-- WHILE A SOCKET WAITS for a place, these give way: between requests, one that has paused, or that has had its place
-- for ten seconds; a slow head or body; and a body that has come for ten seconds. A reply never does
abbrev pub GivesWayAt : At → Stay → Type 0
GivesWayAt Between s = HasPaused s ⊎ (SHORTEST_STAY ≤ seconds_from s.opened s.time)
GivesWayAt Head s = IsSlow s
GivesWayAt Body s = IsSlow s ⊎ (SHORTEST_STAY ≤ seconds_from s.begun s.time)
GivesWayAt Reply s = ⊥

abbrev pub GivesWay : Stay → Type 0
GivesWay s = GivesWayAt s.at s

-- THE TIME OF A CONNECTION IS OVER
abbrev pub IsOver : Stay → Type 0
IsOver s = HasIdled s ⊎ ((s.wanted ≡ true) × GivesWay s)

-- it is between requests, and something came or went in this turn
abbrev pub is_between : At → Bool
is_between Between = true
is_between Head = false
is_between Body = false
is_between Reply = false

abbrev pub has_just_moved : Stay → Bool
has_just_moved s = is_between s.at && (as_nanos s.moved == as_nanos s.time)
