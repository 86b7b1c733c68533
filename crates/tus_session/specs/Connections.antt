-- The results of calls on connections.
use Rattle.std.specs.Prelude.{◌≡◌, ◌↔◌, ◌⊎◌, ◌++◌, ℕ, Bool, true, List, Option, Result, Ok, Err, IsErrOf}
use Rattle.upload_rules.specs.Store.{Store}
use Rattle.upload_rules.specs.Answers.{Quiet}
use Rattle.tus_action.specs.Serves.{Appends}
use Rattle.tus_session.specs.History.{State, Event, Mark, Served, OutOfMemory, Failed}
use Rattle.tus_session.specs.History.{Outcome, Gave, Done, Refused, Step, step}
use Rattle.tus_session.specs.declared.answers.Answer.{Answer}
use Rattle.tus_session.specs.declared.errors.SessionError.{SessionError}
use Rattle.tus_session.specs.declared.errors.SessionError.TheVariants.{Stop, Down}
use Rattle.common.specs.declared.stop.Stop.TheVariants.{NoMemory, DiskFault}

-- The mark that a result gives its event.
abbrev pub mark_of : {T : Type 0} → Result T SessionError → Mark
mark_of (Ok x) = Served
mark_of (Err (Stop NoMemory)) = OutOfMemory
mark_of (Err (Stop DiskFault)) = Failed
mark_of (Err f) = Served

-- The outcome that a result represents.
abbrev pub outcome_of : List ℕ → Result Answer SessionError → Outcome
outcome_of bytes (Ok a) = Gave bytes a.taken a.closes a.more
outcome_of bytes (Err f) = Refused f

-- The outcome of a call that gives no bytes.
abbrev pub outcome_of_done : Result (Unit {0}) SessionError → Outcome
outcome_of_done (Ok x) = Done
outcome_of_done (Err f) = Refused f

-- After a disk fault nothing is claimed of the connections.
abbrev pub UnlessFailed : {T : Type 0} → Result T SessionError → Type 0 → Type 0
UnlessFailed (Err (Stop DiskFault)) represents = Unit {0}
UnlessFailed result represents = represents

-- The history has this outcome, and the connections represent its next state.
pub record FollowsStep {T : Type 0} (represents : State → Type 0) (result : Result T SessionError) (outcome : Outcome)
    (now : Step) : Type 0 where
  pub answer : now.outcome ≡ outcome
  pub now_represents : UnlessFailed result (represents now.state)

-- What a call appends to the output: its bytes, which end in those of a text. A refusal appends nothing.
abbrev pub Adds : Bool → Result Answer SessionError → List ℕ → List ℕ → List ℕ → List ℕ → Type 0
Adds sure (Ok a) bytes text old new = Appends sure old new bytes text
Adds sure (Err f) bytes text old new = new ≡ old

-- The same if the disk is known to be honest.
abbrev pub AddsAll : Result Answer SessionError → List ℕ → List ℕ → List ℕ → Type 0
AddsAll (Ok a) bytes old new = new ≡ old ++ bytes
AddsAll (Err f) bytes old new = new ≡ old

-- The result of a call that gives bytes.
abbrev pub GivesFor : Bool → (State → Type 0) → Result Answer SessionError → List ℕ → List ℕ → State → Event → Type 0
GivesFor sure represents result old new st e =
    (bytes : List ℕ) × FollowsStep represents result (outcome_of bytes result) (step st e (mark_of result))
    × Adds sure result bytes (step st e (mark_of result)).text old new

-- The result of a call that gives none.
abbrev pub Does : (State → Type 0) → Result (Unit {0}) SessionError → State → Event → Type 0
Does represents result st e = FollowsStep represents result (outcome_of_done result) (step st e (mark_of result))

-- `Down` is answered exactly if the connections were down. They are down afterwards exactly if they were before, or if
-- this call met a disk fault.
pub record Falls {T : Type 0} (was now : Bool) (result : Result T SessionError) : Type 0 where
  pub refused : IsErrOf result Down ↔ (was ≡ true)
  pub falls : (now ≡ true) ↔ ((was ≡ true) ⊎ IsErrOf result (Stop DiskFault))

-- The disk wasn't asked: its crash images are limited exactly as they were.
pub record Unasked (moment moment' : ℕ) (left_only left_only' : Option ℕ → ℕ → List Store → Type 0)
    (failures failures' : ℕ) : Type 0 where
  pub forth : Quiet moment moment' left_only left_only'
  pub back : Quiet moment' moment left_only' left_only
  pub count : failures' ≡ failures
