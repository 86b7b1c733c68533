-- What a run of a script over a disk comes to, from before its opening.
use Rattle.std.specs.Prelude.{◌≡◌, ◌≤◌, ◌*◌, ℕ, List, Option, Some, Result, Ok, Err, OnErr, OnOk}
use Rattle.spool_disk.specs.Views.{Lasts}
use Rattle.spool_disk.specs.declared.disk.Disk.{Ghosts}
use Rattle.spool_journal.specs.Image.{all_pages}
use Rattle.spool_journal.specs.declared.TheConstants.{PAGE}
use Rattle.spool_pages.specs.View.{View}
use Rattle.spool_catalog.specs.Shows.{Shows}
use Rattle.spool_catalog.specs.declared.error.OpenFault.{OpenFault}
use Rattle.spool_catalog.specs.declared.error.OpenFault.TheVariants as opens
use Rattle.common.specs.declared.stop.Stop.TheVariants.{DiskFault}
use Rattle.spool_image.specs.LeftOnly.{AllShow, LeftOnly, LeftOrShows}
use Rattle.spool_image.specs.Opening.{OpensBy, ReadsBy}
use Rattle.upload_rules.specs.Answers.{Among}
use Rattle.upload_rules.specs.Store.{Store}
use Rattle.tus_session.specs.History.{State, beginning}
use Rattle.tus_session.specs.Images.{AllAmong}
use Rattle.gateway_script.specs.Script.{IsScript}
use Rattle.gateway_engine.specs.Ran.{HasFailed, HasRefused}
use Rattle.gateway_engine.specs.RanOn.{HasRunAs, LastsOver, WritesRun}
use Rattle.gateway_engine.specs.declared.faults.RunFault.{RunFault}
use Rattle.gateway_engine.specs.declared.faults.RunFault.TheVariants.{Open, Script}

-- THE RESULT

-- how the opening ended
abbrev pub opening_in : {D : Type 0} → Result D (D × RunFault) → Result (Unit {0}) (D × OpenFault)
opening_in (Err (d, Open fault)) = Err (d, fault)
opening_in result = Ok (tt {0})

-- the disk that is handed back
abbrev pub disk_back : {D : Type 0} → Result D (D × RunFault) → D
disk_back (Ok d) = d
disk_back (Err (d, fault)) = d

-- the disk failed
abbrev pub HasFailedOn : {D : Type 0} → Result D (D × RunFault) → Type 0
HasFailedOn (Ok d) = ⊥
HasFailedOn (Err (d, Open fault)) = fault ≡ opens.Stop DiskFault
HasFailedOn (Err (d, Script fault)) = HasFailed (Err (d, fault))

-- the reader or the writer refused
abbrev pub HasRefusedOn : {D : Type 0} → Result D (D × RunFault) → Type 0
HasRefusedOn (Err (d, Script fault)) = HasRefused (Err (d, fault))
HasRefusedOn result = ⊥

-- OVER A SPOOL

-- From the disk before to the disk now, by way of the disk once it was opened. From then on a crash leaves what it does
-- over the run; and from any earlier moment it leaves what it was limited to before, once the run's stores are among
-- that
pub record LastsOverOpening {D : Type 0} (disk : Ghosts D) (before now : D) (n : ℕ) (m : Store) (stores : List Store) :
    Type 0 where
  pub opened : D
  pub opening : Lasts disk before opened (LeftOrShows disk before n m)
  pub shown : AllShow disk opened n m
  pub over : LastsOver disk opened now n stores
  pub always : (t : ℕ) (ms : List Store) → t ≤ disk.moment before → LeftOnly disk before n t ms → AllAmong stores ms
      → LeftOnly disk now n t ms

-- the disk wasn't opened: a crash leaves what it might have left before, or what shows the same
pub record UnopenedOn {D : Type 0} (disk : Ghosts D) (before now : D) (n : ℕ) (m : Store) : Type 0 where
  pub honest : disk.honest now
  pub room : PAGE * all_pages n ≤ disk.size now
  pub lasts : Lasts disk before now (LeftOrShows disk before n m)
  pub always : (t : ℕ) (ms : List Store) → t ≤ disk.moment before → LeftOnly disk before n t ms → Among m ms
      → LeftOnly disk now n t ms

-- a disk of which a read shows uploads is opened, but for memory and the disk, and the run ends as one over them does
abbrev pub HasRunFrom : {D : Type 0} → Ghosts D → D → Result D (D × RunFault) → Option (List ℕ) → Option (List ℕ) → ℕ
    → State → List ℕ → Type 0
HasRunFrom disk before (Ok d) held prefix n st bytes =
    HasRunAs disk (λ now stores. LastsOverOpening disk before now n st.world.store stores) (Ok d) held prefix n st bytes
HasRunFrom disk before (Err (d, Script fault)) held prefix n st bytes =
    HasRunAs disk (λ now stores. LastsOverOpening disk before now n st.world.store stores) (Err (d, fault)) held prefix
    n st bytes
HasRunFrom disk before (Err (d, Open (opens.Stop stop))) held prefix n st bytes =
    UnopenedOn disk before d n st.world.store
HasRunFrom disk before (Err (d, Open fault)) held prefix n st bytes = ⊥

-- WHATEVER THE DISK

-- what a run writes over the uploads with which it begins, and nothing where it doesn't begin
abbrev pub WritesFrom : {D : Type 0} → Result D (D × RunFault) → Option (List ℕ) → Option (List ℕ) → State → List ℕ
    → Type 0
WritesFrom (Ok d) held prefix st bytes = WritesRun (Ok d) held prefix st bytes
WritesFrom (Err (d, Script fault)) held prefix st bytes = WritesRun (Err (d, fault)) held prefix st bytes
WritesFrom (Err (d, Open fault)) held prefix st bytes = held ≡ prefix

-- for all uploads that this view shows, the exit and the output are those of the script that the reader has
abbrev pub WritesOver : {D : Type 0} → Result D (D × RunFault) → Option (List ℕ) → Option (List ℕ) → Option (List ℕ)
    → View → Type 0
WritesOver result input held prefix v = (m : Store) → Shows v m → (script : List ℕ) × IsScript input script
    × WritesFrom result held prefix (beginning m (Some v.blocks)) script

-- where the disk was opened, a view was read that shows uploads, and this is so of it
abbrev pub WritesOpened : {D : Type 0} → Result D (D × RunFault) → Option (List ℕ) → Option (List ℕ)
    → Option (List ℕ) → Type 0
WritesOpened result input held prefix =
    OnOk (opening_in result) ((v : View) × (m : Store) × Shows v m × WritesOver result input held prefix v)

-- It answers by what the opening's reads gave, from the disk before to the disk as the opening left it: of the view
-- that they encode, this is so. If it wasn't opened, that disk is handed back
pub record RunsBy {D : Type 0} (disk : Ghosts D) (before : D) (result : Result D (D × RunFault)) (So : View → Type 0) :
    Type 0 where
  pub left : D
  pub back : OnErr (opening_in result) (left ≡ disk_back result)
  pub by : ReadsBy (disk.reads before) (disk.reads left) (OpensBy (λ opened v. So v) (disk.size before)
      (opening_in result))
