-- The rounds of a disk's life. In each it is opened and a script is run over it, or it is brought to version 2, or it
-- gets a later next number, and then it crashes, or it goes on as it is.
use Rattle.std.specs.Prelude.{◌≡◌, ℕ, ◌<◌, ◌≤◌, max, List, [], ◌∷◌, ◌++◌, Option, Some, None, take}
use Rattle.common.specs.declared.stop.Stop.TheVariants.{NoMemory, DiskFault}
use Rattle.spool_disk.specs.Disk.{Counts, IsImage}
use Rattle.spool_disk.specs.declared.disk.Disk.{Ghosts}
use Rattle.spool_image.specs.Format.{IsNewest}
use Rattle.spool_image.specs.LeftOnly.{AllShow}
use Rattle.spool_image.specs.Texts.{HasText}
use Rattle.spool_image.specs.Raise.{latest}
use Rattle.spool_image.specs.declared.error.RaiseError.{RaiseError}
use Rattle.spool_image.specs.declared.error.RaiseError.TheVariants as raises
use Rattle.spool_image.specs.declared.error.UpgradeError.{UpgradeError}
use Rattle.spool_image.specs.declared.error.UpgradeError.TheVariants as upgrades
use Rattle.spool_catalog.specs.Raising.{raised}
use Rattle.spool_catalog.specs.Shows.{ImageShows}
use Rattle.spool_catalog.specs.declared.error.OpenFault.TheVariants as opens
use Rattle.upload_rules.specs.Answers.{Among}
use Rattle.upload_rules.specs.Store.{HasAllBytes, Store, Upload, upload_of}
use Rattle.tus_session.specs.History.{State, Mark, Marked, beginning, history}
use Rattle.tus_session.specs.Images.{last_stores}
use Rattle.gateway_script.specs.Script as script
use Rattle.gateway_script.specs.Script.{script_result, Ran, AtLine, Faulted}
use Rattle.gateway_script.specs.Outputs.{IsFirst, output_of, WroteMost}
use Rattle.gateway_script.specs.declared.faults.CallFault.TheVariants as calls
use Rattle.gateway_script.specs.declared.faults.ScriptFault.TheVariants as scripts
use Rattle.gateway_engine.specs.RanOn.{AllShowOne}
use Rattle.gateway_engine.specs.declared.faults.RunFault.{RunFault}
use Rattle.gateway_engine.specs.declared.faults.RunFault.TheVariants.{Open, Script}
use Rattle.gateway_rounds.specs.declared.round.End.{End}
use Rattle.gateway_rounds.specs.declared.round.End.TheVariants.{Crash, Nothing}
use Rattle.gateway_rounds.specs.declared.round.Raise as code_raise
use Rattle.gateway_rounds.specs.declared.round.Round.{Round}
use Rattle.gateway_rounds.specs.declared.round.Run as code_run
use Rattle.gateway_rounds.specs.declared.round.Work.{Work}
use Rattle.gateway_rounds.specs.declared.round.Work.TheVariants.{Raise, Run, Upgrade}

-- WHERE A ROUND BEGINS: each image shows one of some stores. A read shows one of them, and the disk is opened with it
pub record OpensWith {D : Type 0} (disk : Ghosts D) (given : D) (n : ℕ) (stores : List Store) (m : Store) : Type 0 where
  pub among : Among m stores
  pub shows : ImageShows n (disk.current given) m

-- THE EVENTS OF A RUN, of which the latest is first

-- The stores of which each image shows one after them. Where the disk failed at the latest event, they have its change
-- or they don't; where the disk wasn't opened, they are those of before
abbrev pub left_by_run : Option RunFault → State → List Marked → List Store → List Store
left_by_run (Some (Script (scripts.Stop DiskFault))) st past before = last_stores st past
left_by_run (Some (Open fault)) st past before = before
left_by_run fault st past before = (history st past).world.store ∷ []

-- they are all that the script asks for, and all that they gave was written
pub record IsWholeRun (st : State) (r : script.Result) (past : List Marked) (out : List ℕ) : Type 0 where
  pub events : past ≡ r.run.past
  pub output : out ≡ output_of st past

-- How the run ended. An opening is refused by memory or the disk alone
abbrev pub RunEndsAs : Option RunFault → State → script.Result → List Marked → List ℕ → Type 0
RunEndsAs None st r past out = (r.exit ≡ Ran) × IsWholeRun st r past out
RunEndsAs (Some (Script (scripts.Script line))) st r past out = (r.exit ≡ AtLine line) × IsWholeRun st r past out
RunEndsAs (Some (Script (scripts.Stop DiskFault))) st r past out = (r.exit ≡ Faulted) × IsWholeRun st r past out
RunEndsAs (Some (Script (scripts.Stop NoMemory))) st r past out = WroteMost (calls.Stop NoMemory) st past out
RunEndsAs (Some (Script scripts.Io)) st r past out = WroteMost calls.Io st past out
RunEndsAs (Some (Open (opens.Stop stop))) st r past out = past ≡ []
RunEndsAs (Some (Open _)) st r past out = ⊥

-- the disk failed
abbrev pub IsRunFault : Option RunFault → Type 0
IsRunFault (Some (Script (scripts.Stop DiskFault))) = Unit {0}
IsRunFault (Some (Open (opens.Stop DiskFault))) = Unit {0}
IsRunFault _ = ⊥

-- A RUN

-- Over these uploads some first events of the script happened, by some marks. What was written is the prefix of what
-- these gave, and they leave these stores
pub record PassesRun (n : ℕ) (m : Store) (bytes : List ℕ) (fault : Option RunFault) (out : List ℕ)
    (before left : List Store) : Type 0 where
  pub marks : List Mark
  pub past : List Marked
  pub first : IsFirst past (script_result (beginning m (Some n)) marks bytes).run.past
  pub unwritten : List ℕ
  pub replies : output_of (beginning m (Some n)) past ≡ out ++ unwritten
  pub leaves : left ≡ left_by_run fault (beginning m (Some n)) past before
  pub ends : RunEndsAs fault (beginning m (Some n)) (script_result (beginning m (Some n)) marks bytes) past out

-- what is read of a script: its limit and one byte more, so that a longer one is refused at its line
abbrev pub read_of : List ℕ → List ℕ
read_of bytes = take 1073741825 bytes

-- A run as it was reported, from a disk to the disk that came back. It ends with `Script Io` exactly where what it
-- wrote was refused to grow
pub record IsRun {D : Type 0} (disk : Ghosts D) (n : ℕ) (given back : D) (before left : List Store)
    (run reported : code_run.Run) : Type 0 where
  pub script : reported.script ≡ run.script
  pub store : Store
  pub opened : OpensWith disk given n before store
  pub out : List ℕ
  pub written : reported.written.bytes.items ≡ run.written.bytes.items ++ out
  pub passes : PassesRun n store (read_of run.script.items) reported.fault out before left
  pub counts : Counts (IsRunFault reported.fault) (disk.failures given) (disk.failures back)
  pub refusals : Counts (reported.fault ≡ Some (Script scripts.Io)) run.written.refusals reported.written.refusals

-- AN UPGRADE

-- how it ended: it is refused by memory, by the disk, or where the spool is of version 2
abbrev pub UpgradeEnds : Option UpgradeError → Type 0
UpgradeEnds None = Unit {0}
UpgradeEnds (Some upgrades.AlreadyNew) = Unit {0}
UpgradeEnds (Some (upgrades.Open (opens.Stop stop))) = Unit {0}
UpgradeEnds (Some (upgrades.Open _)) = ⊥

-- each image is of version 2 where it was done, and where there was nothing left to do
abbrev pub UpgradeLeaves : Option UpgradeError → (ℕ → ℕ) → Type 0
UpgradeLeaves None image = IsNewest image
UpgradeLeaves (Some upgrades.AlreadyNew) image = IsNewest image
UpgradeLeaves (Some (upgrades.Open _)) image = Unit {0}

-- it changes no upload. Where the disk failed, the images show one of the stores of before
abbrev pub left_by_upgrade : Option UpgradeError → Store → List Store → List Store
left_by_upgrade (Some (upgrades.Open (opens.Stop DiskFault))) m before = before
left_by_upgrade reported m before = m ∷ []

-- an upgrade as it was reported, from a disk to the disk that came back
pub record IsUpgrade {D : Type 0} (disk : Ghosts D) (n : ℕ) (given back : D) (before left : List Store)
    (reported : Option UpgradeError) : Type 0 where
  pub ends : UpgradeEnds reported
  pub store : Store
  pub opened : OpensWith disk given n before store
  pub same : left ≡ left_by_upgrade reported store before
  pub leaves : (image : ℕ → ℕ) → IsImage (disk.current back) (disk.unsynced back) image → UpgradeLeaves reported image
  pub counts : Counts (reported ≡ Some (upgrades.Open (opens.Stop DiskFault))) (disk.failures given)
      (disk.failures back)

-- A RAISE

-- the store with the later of its next number and this one
abbrev pub raised_to : Store → ℕ → Store
raised_to m number = raised m (max m.next number)

-- how it ended: it is refused by memory, by the disk, or where the number is too large
abbrev pub RaiseEnds : ℕ → Option RaiseError → Type 0
RaiseEnds number None = number ≤ latest
RaiseEnds number (Some raises.TooLarge) = latest < number
RaiseEnds number (Some (raises.Open (opens.Stop stop))) = Unit {0}
RaiseEnds number (Some (raises.Open _)) = ⊥

-- It changes no upload, and the next number where it was done. Where the disk failed, the images show one of the stores
-- of before, or the later number
abbrev pub left_by_raise : Option RaiseError → ℕ → Store → List Store → List Store
left_by_raise None number m before = raised_to m number ∷ []
left_by_raise (Some (raises.Open (opens.Stop DiskFault))) number m before = raised_to m number ∷ before
left_by_raise (Some fault) number m before = before

-- a raise as it was reported, from a disk to the disk that came back
pub record IsRaise {D : Type 0} (disk : Ghosts D) (n : ℕ) (given back : D) (before left : List Store)
    (round reported : code_raise.Raise) : Type 0 where
  pub number : reported.number ≡ round.number
  pub ends : RaiseEnds round.number reported.fault
  pub store : Store
  pub opened : OpensWith disk given n before store
  pub leaves : left ≡ left_by_raise reported.fault round.number store before
  pub counts : Counts (reported.fault ≡ Some (raises.Open (opens.Stop DiskFault))) (disk.failures given)
      (disk.failures back)

-- THE END OF A ROUND

-- The crash that was chosen left one of the images that it may leave, all of it synced, which shows one of the stores.
-- It is no failure of the disk
pub record Crashes {D C : Type 0} (disk : Ghosts D) (chosen : C → D → D → Type 0) (how : C) (back after : D)
    (left next : List Store) : Type 0 where
  pub is : chosen how back after
  pub image : IsImage (disk.current back) (disk.unsynced back) (disk.current after)
  pub synced : (p : ℕ) → disk.unsynced after p → ⊥
  pub failures : disk.failures after ≡ disk.failures back
  pub store : Store
  pub among : Among store left
  pub alone : next ≡ store ∷ []

-- a crash, or nothing
abbrev pub IsEnd : {D C : Type 0} → Ghosts D → (C → D → D → Type 0) → End C → D → D → List Store → List Store → Type 0
IsEnd disk chosen (Crash how) back after left next = Crashes disk chosen how back after left next
IsEnd disk chosen Nothing back after left next = (after ≡ back) × (next ≡ left)

-- A ROUND

-- what is done as it was reported
abbrev pub IsWork : {D : Type 0} → Ghosts D → ℕ → D → D → List Store → List Store → Work → Work → Type 0
IsWork disk n given back before left (Run run) (Run reported) = IsRun disk n given back before left run reported
IsWork disk n given back before left (Upgrade error) (Upgrade reported) =
    IsUpgrade disk n given back before left reported
IsWork disk n given back before left (Raise round) (Raise reported) =
    IsRaise disk n given back before left round reported
IsWork disk n given back before left work reported = ⊥

-- the uploads of a store are there in an image, with their texts
abbrev pub HasTextsOf : (ℕ → ℕ) → Store → Type 0
HasTextsOf image m = (k : ℕ) (u : Upload) → upload_of m k ≡ Some u → HasText image m.indexes k u

-- of each upload of these stores all bytes are there, so that its text is that of all bytes that were accepted
abbrev pub HaveAllBytes : List Store → Type 0
HaveAllBytes stores = (m : Store) → Among m stores → HasAllBytes m

-- A round as it was reported. Each image of the given disk shows one of the stores before, and each image of the disk
-- after shows one of the next. `back` is the disk that came back in between
pub record IsRound {D C : Type 0} (disk : Ghosts D) (chosen : C → D → D → Type 0) (n : ℕ) (given after : D)
    (before next : List Store) (round reported : Round C) : Type 0 where
  pub back : D
  pub left : List Store
  pub work : IsWork disk n given back before left round.work reported.work
  pub shown : AllShowOne disk back n left
  pub same_end : reported.end ≡ round.end
  pub end : IsEnd disk chosen round.end back after left next
  pub shows : AllShowOne disk after n next
  pub texts : (image : ℕ → ℕ) (m : Store) → ImageShows n image m
      → IsImage (disk.current after) (disk.unsynced after) image
      → HasTextsOf image m
  pub bytes : HaveAllBytes before → HaveAllBytes next

-- ALL ROUNDS

-- one after the other, each from where the one before ended
abbrev pub Lives : {D C : Type 0} → Ghosts D → (C → D → D → Type 0) → ℕ → D → List Store → List (Round C)
    → List (Round C) → D → List Store → Type 0
Lives disk chosen n d stores [] [] last end = (last ≡ d) × (end ≡ stores)
Lives disk chosen n d stores [] (t ∷ reported) last end = ⊥
Lives disk chosen n d stores (r ∷ rounds) [] last end = ⊥
Lives {D = D} disk chosen n d stores (r ∷ rounds) (t ∷ reported) last end =
    (after : D) × (next : List Store) × IsRound disk chosen n d after stores next r t
    × Lives disk chosen n after next rounds reported last end

-- the disk was made a spool of version 2 with these uploads, without a failure, and then lived through the rounds
pub record HasLived {D C : Type 0} (disk : Ghosts D) (chosen : C → D → D → Type 0) (given : D) (n : ℕ) (m : Store)
    (rounds reported : List (Round C)) (last : D) : Type 0 where
  pub made : D
  pub size : disk.size made ≡ disk.size given
  pub failures : disk.failures made ≡ disk.failures given
  pub shows : AllShow disk made n m
  pub newest : (image : ℕ → ℕ) → IsImage (disk.current made) (disk.unsynced made) image → IsNewest image
  pub end : List Store
  pub lives : Lives disk chosen n made (m ∷ []) rounds reported last end
