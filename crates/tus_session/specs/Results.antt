-- The results of calls on a session.
use Rattle.std.specs.Prelude.{◌≡◌, ℕ, List, Option, Result, Ok, Err, Bool}
use Rattle.upload_rules.specs.declared.uploads.Uploads.{Ghosts}
use Rattle.tus_action.specs.Serves.{Appends}
use Rattle.tus_session.specs.History.{State, Event, Served, OutOfMemory, Failed, Outcome, Gave, Done, Refused, step}
use Rattle.tus_session.specs.Represents.{SessionRepresents}
use Rattle.tus_session.specs.declared.answers.Answer.{Answer}
use Rattle.tus_session.specs.declared.conns.Link.{Link}
use Rattle.tus_session.specs.declared.errors.SessionError.{SessionError}
use Rattle.tus_session.specs.declared.errors.SessionError.TheVariants.{Stop}
use Rattle.common.specs.declared.stop.Stop.TheVariants.{NoMemory, DiskFault}

-- The session represents the state after the event, and the history's outcome is the given one.
pub record Follows {U B : Type 0} (u : Ghosts U B) (sure : Bool) (places : List (Option (Link B))) (store : U)
    (now : State) (answered given : Outcome) : Type 0 where
  pub represents : SessionRepresents u sure places store now
  pub outcome : answered ≡ given

-- The result of an event that gives bytes. Served: the history's step. Out of memory: the connection closed. A disk
-- fault: only the output is known, and it is unchanged. Any other refusal changes nothing.
abbrev pub RepliesAs : {U B : Type 0} → Ghosts U B → Bool → List (Option (Link B)) → U → Result Answer SessionError
    → List ℕ
    → List ℕ → State → Event → Type 0
RepliesAs u sure places store (Ok a) old new st e =
    (bytes : List ℕ) × Follows u sure places store (step st e Served).state (step st e Served).outcome
    (Gave bytes a.taken a.closes a.more) × Appends sure old new bytes (step st e Served).text
RepliesAs u sure places store (Err (Stop NoMemory)) old new st e =
    Follows u sure places store (step st e OutOfMemory).state (step st e OutOfMemory).outcome
    (Refused (Stop NoMemory)) × (new ≡ old)
RepliesAs u sure places store (Err (Stop DiskFault)) old new st e =
    ((step st e Failed).outcome ≡ Refused (Stop DiskFault)) × (new ≡ old)
RepliesAs u sure places store (Err f) old new st e =
    Follows u sure places store st (step st e Served).outcome (Refused f) × (new ≡ old)

-- The result of an event that gives none.
abbrev pub EndsEvent : {U B : Type 0} → Ghosts U B → Bool → List (Option (Link B)) → U → Result (Unit {0}) SessionError
    → State → Event → Type 0
EndsEvent u sure places store (Ok x) st e = Follows u sure places store (step st e Served).state
    (step st e Served).outcome
    Done
EndsEvent u sure places store (Err (Stop NoMemory)) st e =
    Follows u sure places store (step st e OutOfMemory).state (step st e OutOfMemory).outcome (Refused (Stop NoMemory))
EndsEvent u sure places store (Err (Stop DiskFault)) st e = (step st e Failed).outcome ≡ Refused (Stop DiskFault)
EndsEvent u sure places store (Err f) st e = Follows u sure places store st (step st e Served).outcome (Refused f)

-- The connection is open, or nothing changed.
abbrev pub Opens : {U B : Type 0} → Ghosts U B → Bool → List (Option (Link B)) → U → Result (Unit {0}) SessionError
    → State → Event → Type 0
Opens u sure places store (Ok x) st e = Follows u sure places store (step st e Served).state (step st e Served).outcome
    Done
Opens u sure places store (Err f) st e = Follows u sure places store st (step st e Served).outcome (Refused f)
