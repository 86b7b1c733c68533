-- What a run of a script comes to.
use Rattle.std.specs.Prelude.{◌≡◌, ◌⊎◌, ◌<◌, ◌≤◌, ◌+◌, ◌^◌, ℕ, Bool, true, List, Option, Result, Ok, Err}
use Rattle.std.specs.Io.KnownBytes.{Appends}
use Rattle.common.specs.declared.stop.Stop.TheVariants.{NoMemory, DiskFault}
use Rattle.upload_rules.specs.World.{at_rest}
use Rattle.upload_rules.specs.declared.uploads.Uploads.{Ghosts}
use Rattle.tus_session.specs.History.{State, Mark, Marked, history}
use Rattle.tus_session.specs.Images.{stores_of, ShowsLast, LimitsTo}
use Rattle.gateway_script.specs.Script as script
use Rattle.gateway_script.specs.Script.{script_result, Exit, Ran, AtLine, Faulted}
use Rattle.gateway_script.specs.Outputs.{IsFirst, output_of, BreaksOff}
use Rattle.gateway_script.specs.Runs.{HasWritten}
use Rattle.gateway_script.specs.declared.faults.CallFault.{CallFault}
use Rattle.gateway_script.specs.declared.faults.CallFault.TheVariants as calls
use Rattle.gateway_script.specs.declared.faults.ScriptFault.{ScriptFault}
use Rattle.gateway_script.specs.declared.faults.ScriptFault.TheVariants.{Stop, Script, Io}

-- From the uploads before to the uploads now. A crash at any moment since the run began leaves an image that shows the
-- uploads after some first events of the history. Images of earlier moments show these too, or what they showed
pub record ShowsSince {U B : Type 0} (u : Ghosts U B) (before now : U) (st : State) (past : List Marked) : Type 0 where
  pub since : u.left_only now st.world.blocks (u.moment before) (stores_of st past)
  pub limits : LimitsTo (u.moment before) (u.moment now) (u.left_only before) (u.left_only now) (stores_of st past)

-- the uploads are those of the history, and no draft is open
abbrev pub IsAtRest : {U B : Type 0} → Ghosts U B → Bool → U → State → Type 0
IsAtRest u sure store st = u.represents store sure (at_rest st.world.store st.world.blocks)

-- WHAT IS WRITTEN. The script ended so, by the marks of its calls, and the output of all its events was written after
-- what was there
pub record WritesAll (sure : Bool) (st : State) (r : script.Result) (held prefix : Option (List ℕ)) (exit : Exit) :
    Type 0 where
  pub exits : r.exit ≡ exit
  pub all : HasWritten sure prefix held st r.run.past

-- the run was broken off after these events, the first of the script's
pub record WritesSome (sure : Bool) (st : State) (r : script.Result) (held prefix : Option (List ℕ))
    (fault : CallFault) : Type 0 where
  pub past : List Marked
  pub first : IsFirst past r.run.past
  pub out : List ℕ
  pub wrote : Appends prefix held out
  pub most : BreaksOff sure fault st past out

-- AND WHAT IS LEFT. The script ended so, and its run is the history's
pub record EndedSo {U B : Type 0} (u : Ghosts U B) (sure : Bool) (before now : U) (st : State) (r : script.Result)
    (held prefix : Option (List ℕ)) (exit : Exit) : Type 0 where
  pub writes : WritesAll sure st r held prefix exit
  pub output : r.run.out ≡ output_of st r.run.past
  pub state : r.run.state ≡ history st r.run.past
  pub shows : sure ≡ true → ShowsSince u before now st r.run.past

-- the script ended so, and the store has the uploads of its history, no draft open
pub record RestsSo {U B : Type 0} (u : Ghosts U B) (sure : Bool) (before now : U) (st : State) (r : script.Result)
    (held prefix : Option (List ℕ)) (exit : Exit) : Type 0 where
  pub ended : EndedSo u sure before now st r held prefix exit
  pub rests : IsAtRest u sure now r.run.state

-- the script ended at an event at which the disk failed: images show the uploads after it, or before it
pub record FailedSo {U B : Type 0} (u : Ghosts U B) (sure : Bool) (before now : U) (st : State) (r : script.Result)
    (held prefix : Option (List ℕ)) : Type 0 where
  pub ended : EndedSo u sure before now st r held prefix Faulted
  pub last : sure ≡ true → ShowsLast (u.moment now) (u.left_only now) st r.run.past

-- the run was broken off, and the store has the uploads of the history of its events, no draft open
pub record StoppedSo {U B : Type 0} (u : Ghosts U B) (sure : Bool) (before now : U) (st : State) (r : script.Result)
    (held prefix : Option (List ℕ)) (fault : CallFault) : Type 0 where
  pub writes : WritesSome sure st r held prefix fault
  pub rests : IsAtRest u sure now (history st writes.past)
  pub shows : sure ≡ true → ShowsSince u before now st writes.past

-- after a disk fault nothing is known of the store but its images
abbrev pub HasRun : {U B : Type 0} → Ghosts U B → Bool → U → Result U (U × ScriptFault) → Option (List ℕ)
    → Option (List ℕ) → State → List ℕ → Type 0
HasRun u sure before (Ok store) held prefix st bytes =
    (marks : List Mark) × RestsSo u sure before store st (script_result st marks bytes) held prefix Ran
HasRun u sure before (Err (store, Script n)) held prefix st bytes =
    (marks : List Mark) × RestsSo u sure before store st (script_result st marks bytes) held prefix (AtLine n)
HasRun u sure before (Err (store, Stop DiskFault)) held prefix st bytes =
    (marks : List Mark) × FailedSo u sure before store st (script_result st marks bytes) held prefix
HasRun u sure before (Err (store, Stop NoMemory)) held prefix st bytes =
    (marks : List Mark)
    × StoppedSo u sure before store st (script_result st marks bytes) held prefix (calls.Stop NoMemory)
HasRun u sure before (Err (store, Io)) held prefix st bytes =
    (marks : List Mark) × StoppedSo u sure before store st (script_result st marks bytes) held prefix calls.Io

-- the disk failed
abbrev pub HasFailed : {U : Type 0} → Result U (U × ScriptFault) → Type 0
HasFailed (Err (store, Stop DiskFault)) = Unit {0}
HasFailed result = ⊥

-- the uploads that are handed back
abbrev pub handed_back : {U : Type 0} → Result U (U × ScriptFault) → U
handed_back (Ok store) = store
handed_back (Err (store, fault)) = store

-- THE READER AND THE WRITER: one of them refused
abbrev pub HasRefused : {U : Type 0} → Result U (U × ScriptFault) → Type 0
HasRefused (Err (store, Io)) = Unit {0}
HasRefused result = ⊥

-- a refusal was counted, or the count was full
abbrev pub IsCounted : ℕ → ℕ → Type 0
IsCounted before now = (before < now) ⊎ (2 ^ 64 ≤ before + 1)

-- a refusal of the reader or of the writer is counted by the one that refused, and nothing else is
pub record CountsEither (refused : Type 0) (read read' written written' : ℕ) : Type 0 where
  pub reader_later : read ≤ read'
  pub writer_later : written ≤ written'
  pub counted : refused → IsCounted read read' ⊎ IsCounted written written'
  pub nothing_else : (read < read') ⊎ (written < written') → refused
