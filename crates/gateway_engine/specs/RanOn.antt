-- What a run of a script over a spool on a disk comes to.
use Rattle.std.specs.Prelude.{◌≡◌, ◌≤◌, ◌*◌, ℕ, false, List, Option, Result, Ok, Err}
use Rattle.std.specs.Io.KnownBytes.{Appends}
use Rattle.common.specs.declared.stop.Stop.TheVariants.{NoMemory, DiskFault}
use Rattle.spool_disk.specs.Disk.{IsImage}
use Rattle.spool_disk.specs.declared.disk.Disk.{Ghosts}
use Rattle.spool_journal.specs.Image.{all_pages}
use Rattle.spool_journal.specs.declared.TheConstants.{PAGE}
use Rattle.spool_image.specs.LeftOnly.{AllShow, LeftOnly, ShowsOne}
use Rattle.upload_rules.specs.Store.{Store}
use Rattle.tus_session.specs.History.{State, Mark, Marked, history}
use Rattle.tus_session.specs.Images.{AllAmong, stores_of, last_stores}
use Rattle.gateway_script.specs.Script as script
use Rattle.gateway_script.specs.Script.{script_result, Exit, Ran, AtLine, Faulted}
use Rattle.gateway_script.specs.Outputs.{IsFirst, output_of, WroteMost}
use Rattle.gateway_script.specs.declared.faults.CallFault.{CallFault}
use Rattle.gateway_script.specs.declared.faults.CallFault.TheVariants as calls
use Rattle.gateway_engine.specs.Ran.{WritesAll, WritesSome}
use Rattle.gateway_script.specs.declared.faults.ScriptFault.{ScriptFault}
use Rattle.gateway_script.specs.declared.faults.ScriptFault.TheVariants.{Stop, Script, Io}

-- IMAGES

-- every image that a crash may leave now shows one of these and so many blocks, and the disk has room for them
pub record AllShowOne {D : Type 0} (disk : Ghosts D) (d : D) (n : ℕ) (stores : List Store) : Type 0 where
  pub honest : disk.honest d
  pub room : PAGE * all_pages n ≤ disk.size d
  pub each : (image : ℕ → ℕ) → IsImage (disk.current d) (disk.unsynced d) image → ShowsOne n stores image

-- From the disk before to the disk now. From then on a crash at any moment leaves one of these stores and so many
-- blocks; and from any earlier moment it leaves what it was limited to before, once these stores are among that
pub record LastsOver {D : Type 0} (disk : Ghosts D) (before now : D) (n : ℕ) (stores : List Store) : Type 0 where
  pub later : disk.moment before ≤ disk.moment now
  pub since : LeftOnly disk now n (disk.moment before) stores
  pub always : (t : ℕ) (ms : List Store) → t ≤ disk.moment before → LeftOnly disk before n t ms → AllAmong stores ms
      → LeftOnly disk now n t ms

-- THE EXITS. `Since` is what images show since the run began, if the stores were these

-- The script ended so, by the marks of its calls, and this was written after what was there: the output of all its
-- events. Images show the uploads after all of them, all but the latest, and so on
pub record EndedOn (Since : List Store → Type 0) (st : State) (r : script.Result) (held prefix : Option (List ℕ))
    (exit : Exit) : Type 0 where
  pub exits : r.exit ≡ exit
  pub wrote : Appends prefix held r.run.out
  pub output : r.run.out ≡ output_of st r.run.past
  pub state : r.run.state ≡ history st r.run.past
  pub lasts : Since (stores_of st r.run.past)

-- the script ended so, and the disk has the uploads of its history
pub record RestsOn {D : Type 0} (disk : Ghosts D) (Since : D → List Store → Type 0) (now : D) (n : ℕ) (st : State)
    (r : script.Result) (held prefix : Option (List ℕ)) (exit : Exit) : Type 0 where
  pub ended : EndedOn (Since now) st r held prefix exit
  pub shows : AllShow disk now n r.run.state.world.store

-- The script ended at an event at which the disk failed. The disk has the uploads after all events, or after all but
-- the latest one
pub record FailedOn {D : Type 0} (disk : Ghosts D) (Since : D → List Store → Type 0) (now : D) (n : ℕ) (st : State)
    (r : script.Result) (held prefix : Option (List ℕ)) : Type 0 where
  pub ended : EndedOn (Since now) st r held prefix Faulted
  pub shows : AllShowOne disk now n (last_stores st r.run.past)

-- The run was broken off after these events, the first of the script's. The disk has the uploads of their history
pub record StoppedOn {D : Type 0} (disk : Ghosts D) (Since : D → List Store → Type 0) (now : D) (n : ℕ) (st : State)
    (r : script.Result) (held prefix : Option (List ℕ)) (fault : CallFault) : Type 0 where
  pub past : List Marked
  pub first : IsFirst past r.run.past
  pub out : List ℕ
  pub wrote : Appends prefix held out
  pub most : WroteMost fault st past out
  pub shows : AllShow disk now n (history st past).world.store
  pub lasts : Since now (stores_of st past)

abbrev pub HasRunAs : {D : Type 0} → Ghosts D → (D → List Store → Type 0) → Result D (D × ScriptFault)
    → Option (List ℕ) → Option (List ℕ) → ℕ → State → List ℕ → Type 0
HasRunAs disk Since (Ok d) held prefix n st bytes =
    (marks : List Mark) × RestsOn disk Since d n st (script_result st marks bytes) held prefix Ran
HasRunAs disk Since (Err (d, Script line)) held prefix n st bytes =
    (marks : List Mark) × RestsOn disk Since d n st (script_result st marks bytes) held prefix (AtLine line)
HasRunAs disk Since (Err (d, Stop DiskFault)) held prefix n st bytes =
    (marks : List Mark) × FailedOn disk Since d n st (script_result st marks bytes) held prefix
HasRunAs disk Since (Err (d, Stop NoMemory)) held prefix n st bytes =
    (marks : List Mark) × StoppedOn disk Since d n st (script_result st marks bytes) held prefix (calls.Stop NoMemory)
HasRunAs disk Since (Err (d, Io)) held prefix n st bytes =
    (marks : List Mark) × StoppedOn disk Since d n st (script_result st marks bytes) held prefix calls.Io

-- how a run over uploads on a disk ends
abbrev pub HasRunOn : {D : Type 0} → Ghosts D → D → Result D (D × ScriptFault) → Option (List ℕ) → Option (List ℕ) → ℕ
    → State → List ℕ → Type 0
HasRunOn disk before result held prefix n st bytes =
    HasRunAs disk (λ now stores. LastsOver disk before now n stores) result held prefix n st bytes

-- WHATEVER THE DISK

-- What a run writes: the output of the script's events over the uploads with which it began, but for the bytes of texts
abbrev pub WritesRun : {D : Type 0} → Result D (D × ScriptFault) → Option (List ℕ) → Option (List ℕ) → State → List ℕ
    → Type 0
WritesRun (Ok d) held prefix st bytes =
    (marks : List Mark) × WritesAll false st (script_result st marks bytes) held prefix Ran
WritesRun (Err (d, Script line)) held prefix st bytes =
    (marks : List Mark) × WritesAll false st (script_result st marks bytes) held prefix (AtLine line)
WritesRun (Err (d, Stop DiskFault)) held prefix st bytes =
    (marks : List Mark) × WritesAll false st (script_result st marks bytes) held prefix Faulted
WritesRun (Err (d, Stop NoMemory)) held prefix st bytes =
    (marks : List Mark) × WritesSome false st (script_result st marks bytes) held prefix (calls.Stop NoMemory)
WritesRun (Err (d, Io)) held prefix st bytes =
    (marks : List Mark) × WritesSome false st (script_result st marks bytes) held prefix calls.Io
