-- What a server has when a turn begins.
use Rattle.std.specs.Prelude.{◌≡◌, ◌≢◌, ◌⊎◌, ◌<◌, ◌≤◌, ◌+◌, ◌^◌, ℕ, List, [], length, get_or, Bool}
use Rattle.std.specs.Prelude.{Option, vec_capacity, vec_len}
use Rattle.tus_session.specs.declared.session.TheConstants.{MOST_OPEN}
use Rattle.gateway_serve.specs.Counted.{open_in}
use Rattle.gateway_serve.specs.Joined.{places_of, ended_of}
use Rattle.gateway_serve.specs.Acceptors.{LetsInBy, done_of}
use Rattle.gateway_serve.specs.Drains.{AllDrain, count_drains}
use Rattle.gateway_serve.specs.Partings.{count_draining}
use Rattle.gateway_serve.specs.Reasons.{AllReasoned}
use Rattle.gateway_serve.specs.Streams.{AllHad, AllHave}
use Rattle.gateway_serve.specs.Times.{Shows}
use Rattle.std.specs.declared.time.Duration.{Duration}
use Rattle.gateway_serve.specs.declared.doors.Clients.{Clients}
use Rattle.gateway_serve.specs.declared.doors.Door.{Door}
use Rattle.gateway_serve.specs.declared.drains.Drains.{Drains}
use Rattle.gateway_serve.specs.declared.places.Place.{Place}
use Rattle.gateway_serve.specs.declared.places.Place.TheVariants.{Free}
use Rattle.gateway_serve.specs.declared.server.Server.{Server}

abbrev pub door_of : {S : Type 0} → Server S → Door S
door_of s = s.door

abbrev pub closed_of : {S : Type 0} → Server S → ℕ
closed_of s = s.closed

abbrev pub opened_by : {S : Type 0} → Server S → ℕ
opened_by s = (door_of s).clients.opened

-- at which its turns began, the latest first
abbrev pub times_of : {S : Type 0} → Server S → List Duration
times_of s = s.times.items

abbrev pub refused_by : {S : Type 0} → Server S → ℕ
refused_by s = (door_of s).clients.refused

-- each client that got a connection has it, or its socket ended
abbrev pub IsCounted : {S : Type 0} → Server S → Type 0
IsCounted s = opened_by s ≡ length (ended_of s) + open_in (places_of s)

-- so the clock showed the times of its turns
abbrev pub ShowsBy : {S : Type 0} → List (Option Duration) → List (Option Duration) → Server S → Type 0
ShowsBy before shown s = Shows before shown s.watch.now (times_of s)

-- each connection has the stream that was accepted, and each socket that ended had one. Their times are those of turns
abbrev pub HasStreams : {S : Type 0} → (S → Option (List ℕ)) → (S → Option (List ℕ)) → Server S → Type 0
HasStreams remaining contents s = AllHave remaining contents (times_of s) (places_of s)
    × AllHad remaining contents (times_of s) (ended_of s)

-- each socket that ended did so for its reason
abbrev pub IsReasoned : {S : Type 0} → Server S → Type 0
IsReasoned s = AllReasoned (times_of s) (done_of (door_of s)) (ended_of s)

-- the sockets that drain are all that were to, and each of those that drained has an end
abbrev pub drains_of : {S : Type 0} → Server S → Drains S
drains_of s = s.drains

abbrev pub HasDrains : {S : Type 0} → Server S → Type 0
HasDrains s = AllDrain (drains_of s) × (count_drains (drains_of s) ≡ count_draining (ended_of s))

-- nobody came yet
abbrev pub IsUnvisited : {S : Type 0} → Server S → Type 0
IsUnvisited s =
    ((before : List Bool) → LetsInBy before before 0 (door_of s)) × (closed_of s ≡ 0) × (ended_of s ≡ [])
    × (places_of s ≡ []) × (opened_by s ≡ 0) × (times_of s ≡ []) × HasDrains s

-- one more client can be counted
abbrev pub HasRoom : Clients → Type 0
HasRoom clients = clients.opened + clients.refused + 1 < 2 ^ 64

-- all places are taken
abbrev pub NoneIsFree : {S : Type 0} → List (Place S) → Type 0
NoneIsFree places = (k : ℕ) → k < length places → get_or places k Free ≢ Free

-- no other place can be made: there are as many as may be, or their memory is full
abbrev pub HasNoPlace : {S : Type 0} → Server S → Type 0
HasNoPlace s = (MOST_OPEN ≤ length (places_of s)) ⊎ (vec_capacity s.places ≤ vec_len s.places)

-- all but the places, and the client who waits, is as it was
pub record RestStays {S : Type 0} (s s' : Server S) : Type 0 where
  pub clients : (door_of s').clients ≡ (door_of s).clients
  pub pace : (door_of s').pace ≡ (door_of s).pace
  pub ended : s'.ended.items ≡ s.ended.items
  pub closed : closed_of s' ≡ closed_of s
  pub times : times_of s' ≡ times_of s
  pub watch : s'.watch ≡ s.watch
  pub drains : drains_of s' ≡ drains_of s
