-- The times of a server's turns, of which those of each connection are.
use Rattle.std.specs.Prelude.{◌≡◌, ◌≤◌, List, [], ◌∷◌, ◌++◌, length, Option, Some, None}
use Rattle.std.specs.Duration.{as_nanos}
use Rattle.std.specs.declared.time.Duration.{Duration}
use Rattle.gateway_serve.specs.Acceptors.{count_turns}
use Rattle.gateway_serve.specs.Gone.{IsAmong, IsTimed}
use Rattle.gateway_serve.specs.declared.clocks.Showing.{Showing}
use Rattle.gateway_serve.specs.declared.doors.AtDoor.{AtDoor}
use Rattle.gateway_serve.specs.declared.links.Link.{Link}
use Rattle.gateway_serve.specs.declared.requests.Request.{Request}

-- the times of a request are among these: when the part of it that comes began, and since when its speed is measured
abbrev pub IsRequestTimed : List Duration → Option Request → Type 0
IsRequestTimed times None = Unit {0}
IsRequestTimed times (Some request) = IsAmong request.begun times × IsAmong request.since times

-- THE TIMES OF A LINK: when it was opened, when something last came or went, and those of its request
abbrev pub IsLinkTimed : {S : Type 0} → List Duration → Link S → Type 0
IsLinkTimed times l = IsTimed times l.socket.spell × IsRequestTimed times l.request

-- and still are after what was done in a turn that began then
abbrev pub StaysTimed : {S : Type 0} → Duration → Link S → Link S → Type 0
StaysTimed now l l' = (times : List Duration) → IsAmong now times → IsLinkTimed times l → IsLinkTimed times l'

-- the record of a clock
abbrev pub shown_by : {T : Type 0} → Showing T → List (Option Duration)
shown_by clock = clock.shown.items

-- THE TIME after these answers of a clock, the latest first: where it can't be read, the one before, and at first none
abbrev pub IsTime : Duration → List (Option Duration) → Type 0
IsTime now [] = as_nanos now ≡ 0
IsTime now (None ∷ answers) = IsTime now answers
IsTime now (Some time ∷ answers) = now ≡ time

-- and the times of turns, before each of which it was asked once
abbrev pub AreTimes : List Duration → List (Option Duration) → Type 0
AreTimes [] [] = Unit {0}
AreTimes [] (answer ∷ answers) = ⊥
AreTimes (now ∷ times) [] = ⊥
AreTimes (now ∷ times) (answer ∷ answers) = IsTime now (answer ∷ answers) × AreTimes times answers

-- WHILE SERVING GOES ON it was asked for the times of these turns, and for that of the next one
pub record Shows (before shown : List (Option Duration)) (now : Duration) (times : List Duration) : Type 0 where
  pub latest : Option Duration
  pub answers : List (Option Duration)
  pub asked : shown ≡ latest ∷ answers ++ before
  pub next : IsTime now (latest ∷ answers)
  pub began : AreTimes times answers

-- WHEN IT IS OVER it was asked for the times of these turns, one for each in which this was done at the door, and once
-- more at most
pub record HasShown (before shown : List (Option Duration)) (done : List AtDoor) (times : List Duration) :
    Type 0 where
  pub each : length times ≡ count_turns done
  pub more : List (Option Duration)
  pub answers : List (Option Duration)
  pub asked : shown ≡ more ++ (answers ++ before)
  pub once : length more ≤ 1
  pub began : AreTimes times answers
