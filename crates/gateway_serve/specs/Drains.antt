-- How sockets drain.
use Rattle.std.specs.Prelude.{◌≡◌, ◌⊎◌, ◌<◌, ◌≤◌, ◌+◌, ◌==◌, ℕ, Bool, true, false, List, [], ◌∷◌, ◌++◌, length, min}
use Rattle.std.specs.Prelude.{Option, Some, None, if◌then◌else◌}
use Rattle.std.specs.List.{All}
use Rattle.std.specs.declared.io.ErrorKind.{ErrorKind}
use Rattle.std.specs.declared.io.ErrorKind.TheVariants.{WouldBlock, Interrupted}
use Rattle.std.specs.declared.time.Duration.{Duration}
use Rattle.gateway_serve.specs.Gone.{IsFailure}
use Rattle.gateway_serve.specs.Acceptors.{one_when}
use Rattle.gateway_serve.specs.Parted.{calls_of}
use Rattle.gateway_serve.specs.Partings.{count_draining, drains_for}
use Rattle.gateway_serve.specs.declared.reasons.Reason.{Reason}
use Rattle.gateway_serve.specs.Stays.{seconds_from}
use Rattle.gateway_serve.specs.declared.drains.Drain.{Drain}
use Rattle.gateway_serve.specs.declared.drains.DrainEnd.{DrainEnd}
use Rattle.gateway_serve.specs.declared.drains.DrainEnd.TheVariants as How
use Rattle.gateway_serve.specs.declared.drains.Drained.{Drained}
use Rattle.gateway_serve.specs.declared.drains.Drains.{Drains}
use Rattle.gateway_serve.specs.declared.drains.Rest.{Rest}
use Rattle.gateway_serve.specs.declared.drains.Rest.TheVariants.{Flows, Waits, Over}
use Rattle.gateway_serve.specs.declared.drains.TheConstants.{LONGEST_DRAIN, LONGEST_GAP, LONGEST_SILENCE}
use Rattle.gateway_serve.specs.declared.drains.TheConstants.{MOST_DRAINING, MOST_DROPPED}
use Rattle.gateway_serve.specs.declared.sockets.Seen.{Seen}
use Rattle.gateway_serve.specs.declared.parted.Parting.{Parting}
use Rattle.gateway_serve.specs.declared.parted.Parting.TheVariants.{Shut, Read, Failed}

-- so many bytes more were dropped
abbrev pub more_dropped : ℕ → ℕ → ℕ
more_dropped n count = min (n + count) 18_446_744_073_709_551_615

-- WHILE A SOCKET DRAINS: its writing side was shut once, at this time, and since then it was read and nothing else. It
-- isn't at its end, and no read failed but by what may go by. When bytes last came, or else it was shut, and how many
-- came since
pub data IsDraining : List Parting → Duration → Duration → ℕ → Type 0 where
  shut : (now : Duration) → IsDraining (Shut now true ∷ []) now now 0
  flows : (calls : List Parting) (since moved now : Duration) (n count room : ℕ) → IsDraining calls since moved n
      → 0 < count → IsDraining (Read now count room ∷ calls) since now (more_dropped n count)
  waits : (calls : List Parting) (since moved now : Duration) (n : ℕ) (kind : ErrorKind)
      → IsDraining calls since moved n → (kind ≡ WouldBlock) ⊎ (kind ≡ Interrupted)
      → IsDraining (Failed now kind ∷ calls) since moved n

-- it is silent for too long after so many seconds, by how many bytes came
abbrev pub longest_silence : ℕ → ℕ
longest_silence n = if n == 0 then LONGEST_SILENCE else LONGEST_GAP

-- ITS END IN A TURN at this time: its writing side couldn't be shut; a read that had room gave nothing; one failed;
-- none gave anything for too long; it drained for too long; or it brought too much
pub data EndsAt (now : Duration) : List Parting → Type 0 where
  unshut : EndsAt now (Shut now false ∷ [])
  at_end : (calls : List Parting) (since moved : Duration) (n room : ℕ) → IsDraining calls since moved n → 0 < room
      → EndsAt now (Read now 0 room ∷ calls)
  failed : (calls : List Parting) (since moved : Duration) (n : ℕ) (kind : ErrorKind)
      → IsDraining calls since moved n → IsFailure kind → EndsAt now (Failed now kind ∷ calls)
  silent : (calls : List Parting) (since moved : Duration) (n : ℕ) → IsDraining calls since moved n
      → longest_silence n ≤ seconds_from moved now → EndsAt now (Failed now WouldBlock ∷ calls)
  late : (calls : List Parting) (since moved : Duration) (n : ℕ) → IsDraining calls since moved n
      → LONGEST_DRAIN ≤ seconds_from since now → EndsAt now calls
  much : (calls : List Parting) (since moved : Duration) (n : ℕ) → IsDraining calls since moved n → MOST_DROPPED ≤ n
      → EndsAt now calls

-- A SOCKET THAT DRAINS, by what it has: nothing was done with it before its writing side is shut
abbrev pub DrainsSo : List Parting → Option Duration → Duration → ℕ → Type 0
DrainsSo calls None moved n = (calls ≡ []) × (n ≡ 0)
DrainsSo calls (Some since) moved n = IsDraining calls since moved n

abbrev pub IsDrain : {S : Type 0} → Drain S → Type 0
IsDrain d = DrainsSo (calls_of d.stream) d.shut d.moved d.dropped

-- it is shut, and drains
abbrev pub IsShut : {S : Type 0} → Drain S → Type 0
IsShut d = (since : Duration) × (d.shut ≡ Some since) × IsDraining (calls_of d.stream) since d.moved d.dropped

abbrev pub ShutsBy : {S : Type 0} → Bool → Drain S → Duration → Type 0
ShutsBy true d now = IsShut d
ShutsBy false d now = EndsAt now (calls_of d.stream)

-- what a turn left of it
abbrev pub LeavesBy : {S : Type 0} → Rest → Drain S → Duration → Type 0
LeavesBy Flows d now = IsShut d
LeavesBy Waits d now = IsShut d
LeavesBy Over d now = EndsAt now (calls_of d.stream)

-- THE END OF ONE while serving goes on. Where it wasn't a turn, it drained still, if its turn had come
abbrev pub MayDrain : List Parting → Type 0
MayDrain calls = (since : Option Duration) × (moved : Duration) × (n : ℕ) × DrainsSo calls since moved n

abbrev pub EndsBy : DrainEnd → List Parting → Type 0
EndsBy (How.Turn now) calls = EndsAt now calls
EndsBy How.Room calls = MayDrain calls
EndsBy How.Memory calls = calls ≡ []
EndsBy How.Over calls = ⊥

abbrev pub HasEnded : Drained → Type 0
HasEnded d = EndsBy d.end d.calls.items

-- and of one that was left when serving was over
abbrev pub IsLeft : Drained → Type 0
IsLeft d = (d.end ≡ How.Over) × MayDrain d.calls.items

-- ALL OF THEM, those that drain and those that did
abbrev pub draining_of : {S : Type 0} → Drains S → List (Drain S)
draining_of d = d.sockets.items

abbrev pub drained_of : {S : Type 0} → Drains S → List Drained
drained_of d = d.drained.items

abbrev pub AllDrain : {S : Type 0} → Drains S → Type 0
AllDrain d =
    All IsDrain (draining_of d) × All HasEnded (drained_of d) × (length (draining_of d) ≤ MOST_DRAINING)

abbrev pub count_drains : {S : Type 0} → Drains S → ℕ
count_drains d = length (draining_of d) + length (drained_of d)

-- one more drains, if there is a stream and its reason wants that
abbrev pub one_if_drains : {S : Type 0} → Option S → Reason → ℕ
one_if_drains None reason = 0
one_if_drains (Some stream) reason = one_when (drains_for reason)

-- WHAT IS KEPT, as sockets end: each that is to drain is one of them
pub record KeepsDrains {S : Type 0} (d d' : Drains S) (ended ended' : List Seen) : Type 0 where
  pub all : AllDrain d → AllDrain d'
  pub count : count_drains d' + count_draining ended ≡ count_drains d + count_draining ended'

-- WHEN SERVING IS OVER those that drain still are closed
abbrev pub ClosesAll : {S : Type 0} → Drains S → List Drained → Type 0
ClosesAll d drained =
    (left : List Drained) × (drained ≡ left ++ drained_of d) × All IsLeft left
    × (length left ≡ length (draining_of d))

-- so each that was to drain did, but for these, which are no more than may drain at once
pub record HasDrained (ended : List Seen) (drained : List Drained) : Type 0 where
  pub left : List Drained
  pub before : List Drained
  pub parts : drained ≡ left ++ before
  pub closed : All IsLeft left
  pub few : length left ≤ MOST_DRAINING
  pub all : All HasEnded before
  pub each : length drained ≡ count_draining ended
