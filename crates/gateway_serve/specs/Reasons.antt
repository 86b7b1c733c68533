-- Why connections ended.
use Rattle.std.specs.Prelude.{◌≡◌, ◌⊎◌, ℕ, ◌+◌, List, [], ◌∷◌, Option, Some, None}
use Rattle.gateway_serve.specs.declared.sockets.Seen.{Seen}
use Rattle.gateway_serve.specs.Bytes.{latest_of}
use Rattle.gateway_serve.specs.Acceptors.{waits_in}
use Rattle.gateway_serve.specs.Gone.{EndsBy, IsAmong, IsTurn}
use Rattle.gateway_serve.specs.Stays.{IsOver}
use Rattle.gateway_serve.specs.Joined.{at_of}
use Rattle.gateway_serve.specs.Streams.{socket_of}
use Rattle.gateway_serve.specs.declared.doors.AtDoor.{AtDoor}
use Rattle.gateway_serve.specs.declared.idle.Tick.{Tick}
use Rattle.gateway_serve.specs.declared.reasons.Gone.{Gone}
use Rattle.gateway_serve.specs.declared.reasons.Gone.TheVariants as Why
use Rattle.gateway_serve.specs.declared.reasons.Reason.{Reason}
use Rattle.gateway_serve.specs.declared.reasons.Reason.TheVariants.{Closed, Lost, Over}
use Rattle.gateway_serve.specs.declared.links.Link.{Link}
use Rattle.gateway_serve.specs.declared.requests.Request.{Request}
use Rattle.gateway_serve.specs.declared.sockets.Spell.{Spell}
use Rattle.gateway_serve.specs.declared.stays.Stay.{Stay}
use Rattle.std.specs.declared.time.Duration.{Duration}

-- when a link was opened, and when something last came or went
abbrev pub opened_of : {S : Type 0} → Link S → Duration
opened_of l = l.socket.spell.opened

abbrev pub moved_of : {S : Type 0} → Link S → Duration
moved_of l = l.socket.spell.moved

-- how a link is at the time of a turn
abbrev pub begun_by : Option Request → Duration → Duration
begun_by None moved = moved
begun_by (Some request) moved = request.begun

abbrev pub since_by : Option Request → Duration → Duration
since_by None moved = moved
since_by (Some request) moved = request.since

abbrev pub brought_by : Option Request → ℕ
brought_by None = 0
brought_by (Some request) = request.brought

abbrev pub turns_by : Option Request → ℕ
turns_by None = 0
turns_by (Some request) = request.turns

abbrev pub stay_of : {S : Type 0} → Link S → Tick → Stay
stay_of l tick = record {
  at = at_of l;
  wanted = tick.wanted;
  longest = tick.longest;
  opened = opened_of l;
  moved = moved_of l;
  begun = begun_by l.request (moved_of l);
  since = since_by l.request (moved_of l);
  brought = brought_by l.request;
  turns = turns_by l.request;
  time = tick.now;
}

-- its time is over
abbrev pub IsOutOfTime : {S : Type 0} → Link S → Tick → Gone → Type 0
IsOutOfTime l tick gone = (gone ≡ Why.Late (stay_of l tick)) × IsOver (stay_of l tick)

-- A CONNECTION IS LOST for this reason: so its socket answered, or its time is over
abbrev pub IsLostBy : {S : Type 0} → Link S → Tick → Gone → Type 0
IsLostBy l tick gone = EndsBy gone (latest_of (socket_of l)) ⊎ IsOutOfTime l tick gone

-- BY THE CLOCK AND THE DOOR: the time of a connection was over, which was opened and moved then, in a turn that began
-- at one of these times. Since such times its request comes, and is its speed measured. It gave way only in a turn in
-- which a client waited for a place
abbrev pub EndsInTime : List Duration → List AtDoor → Spell → Gone → Type 0
EndsInTime times done spell Why.Ended = ⊥
EndsInTime times done spell (Why.Failed kind) = ⊥
EndsInTime times done spell Why.Stuck = ⊥
EndsInTime times done spell (Why.Late stay) =
    IsOver stay × (stay.opened ≡ spell.opened) × (stay.moved ≡ spell.moved) × IsAmong stay.begun times
    × IsAmong stay.since times × IsTurn stay.time stay.wanted times (waits_in done)

-- THE REASON for which a socket ended while serving went on: by what its stream last answered, or by its times, one of
-- these, at which turns began, and what was done at the door in that turn
abbrev pub HasReason : List Duration → List AtDoor → Seen → Reason → Type 0
HasReason times done s Closed = Unit {0}
HasReason times done s (Lost gone) = EndsBy gone s.latest ⊎ EndsInTime times done s.spell gone
HasReason times done s Over = ⊥

-- each of these sockets ended for its reason
abbrev pub AllReasoned : List Duration → List AtDoor → List Seen → Type 0
AllReasoned times done [] = Unit {0}
AllReasoned times done (s ∷ ended) = HasReason times done s s.reason × AllReasoned times done ended

-- since then, of the connections below this number, at most one of each ended, and because serving was over
pub data EndedOnce (before : List Seen) : ℕ → List Seen → Type 0 where
  none : EndedOnce before 0 before
  free : (n : ℕ) (ended : List Seen) → EndedOnce before n ended → EndedOnce before (n + 1) ended
  one_more : (s : Seen) (ended : List Seen) → s.reason ≡ Over → EndedOnce before s.conn ended
      → EndedOnce before (s.conn + 1) (s ∷ ended)

abbrev pub AtMostOnce : List Seen → List Seen → Type 0
AtMostOnce before ended = (n : ℕ) × EndedOnce before n ended

-- WHEN SERVING IS OVER what is open is ended, at most one connection of each number. Each one before ended for its own
-- reason
abbrev pub EndsReasoned : List Duration → List AtDoor → List Seen → Type 0
EndsReasoned times done ended = (before : List Seen) × AllReasoned times done before × AtMostOnce before ended

-- and after a disk fault the rest is let go
abbrev pub IsLeftReasoned : List Duration → List AtDoor → List Seen → Type 0
IsLeftReasoned times done ended = (before : List Seen) × EndsReasoned times done before × AtMostOnce before ended
