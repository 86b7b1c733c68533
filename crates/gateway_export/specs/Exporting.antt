-- What `export` makes of a folder's files, and what it prints of the uploads.
use Rattle.std.specs.Prelude.{◌≡◌, ◌⊎◌, ◌||◌, ◌+◌, ℕ, Bool, true, false, not, List, [], ◌∷◌, ◌++◌, bytes_eq, codes}
use Rattle.std.specs.Prelude.{IsSome, decimal, Option, Some, None, length, take}
use Rattle.std.specs.Io.KnownBytes.{Appends}
use Rattle.upload_rules.specs.Reading.{text_at}
use Rattle.upload_rules.specs.Store.{Store, upload_of}
use Rattle.gateway_outside.specs.Files.{Files}
use Rattle.gateway_texts.specs.Copies.{AreOf}
use Rattle.gateway_export.specs.Folders.{PreservesFiles, new_file}
use Rattle.gateway_export.specs.Planning.{Job}
use Rattle.gateway_export.specs.declared.outcomes.Outcome.{Outcome}
use Rattle.gateway_export.specs.declared.outcomes.Outcome.TheVariants.{Exported, There, Differs, Unread, Failed}
use Rattle.gateway_export.specs.declared.outcomes.Outcome.TheVariants.{Incomplete}
use Rattle.gateway_export.specs.declared.comparing.Likeness.{Likeness}
use Rattle.gateway_export.specs.declared.comparing.Likeness.TheVariants as found
use Rattle.gateway_export.specs.declared.exporting.ExportTally.{ExportTally}

-- one text in the file that it is to have, where it is to have one
abbrev pub exported_as : Files → Option (List ℕ) → List ℕ → Files
exported_as files None text = files
exported_as files (Some name) text = new_file (files name) files name text

abbrev pub exported_one : Store → Files → Job → Files
exported_one m files job = exported_as files job.1 (text_at m (upload_of m job.0))

-- THE FILES AFTER AN EXPORT: each upload's text under its name, one after the other
abbrev pub exported : Store → Files → List Job → Files
exported m files [] = files
exported m files (job ∷ jobs) = exported m (exported_one m files job) jobs

-- an export that ended somewhere: the files after the first so many jobs. So each file of an upload's name has the
-- whole text, or is the one that was there
pub record ExportsSome (holds : Files → Type 0) (m : Store) (jobs : List Job) (before : Files) : Type 0 where
  pub count : ℕ
  pub held : holds (exported m before (take count jobs))

-- one of the jobs
abbrev pub IsJob : Job → List Job → Type 0
IsJob job [] = ⊥
IsJob job (first ∷ jobs) = (job ≡ first) ⊎ IsJob job jobs

-- THE FILES AFTER AN EXPORT, WHATEVER THE DISK: in place of each text some bytes, as many as it has, and the text
-- itself if that is sure
abbrev pub ExportedAs : Bool → Store → List Job → Files → Files → Type 0
ExportedAs sure m [] before now = now ≡ before
ExportedAs sure m (job ∷ jobs) before now =
    (bytes : List ℕ) × AreOf sure bytes (text_at m (upload_of m job.0))
    × ExportedAs sure m jobs (exported_as before job.1 bytes) now

-- each text that is to be written is in its file
abbrev pub AllThere : Bool → Store → List Job → Files → Type 0
AllThere sure m jobs now =
    (number : ℕ) (name : List ℕ) → IsJob (number, Some name) jobs
    → (bytes : List ℕ) × (now name ≡ Some bytes) × AreOf sure bytes (text_at m (upload_of m number))

-- and its file outlasts a crash
abbrev pub AllLast : (List ℕ → Type 0) → List Job → Type 0
AllLast lasting jobs = (number : ℕ) (name : List ℕ) → IsJob (number, Some name) jobs → lasting name

-- there is such a file already, which isn't the text
abbrev pub is_other : Outcome → Bool
is_other (Differs name) = true
is_other outcome = false

-- or which couldn't be read or synced
abbrev pub is_unread : Outcome → Bool
is_unread (Unread name) = true
is_unread outcome = false

abbrev pub is_amiss : Outcome → Bool
is_amiss outcome = is_other outcome || is_unread outcome

-- such files are held, each text among them, unless a file that was there is amiss: another one than its text, or one
-- that couldn't be read
pub record ExportsAs (sure amiss : Bool) (holds : Files → Type 0) (m : Store) (jobs : List Job)
    (before : Files) : Type 0 where
  pub now : Files
  pub held : holds now
  pub are : ExportedAs sure m jobs before now
  pub there : amiss ≡ false → AllThere sure m jobs now

-- or those after the first so many jobs
pub record ExportsSomeAs (sure : Bool) (holds : Files → Type 0) (m : Store) (jobs : List Job)
    (before : Files) : Type 0 where
  pub count : ℕ
  pub some : ExportsAs sure true holds m (take count jobs) before

-- the same of one text in the file of a name, with its outcome; without one where the folder doesn't take the name
abbrev pub DoneAs : Bool → (Files → Type 0) → Store → Job → Files → Option Outcome → Type 0
DoneAs sure holds m job before None = holds before
DoneAs sure holds m job before (Some outcome) = ExportsAs sure (is_amiss outcome) holds m (job ∷ []) before

abbrev pub TakenAs : Bool → Option Outcome → Type 0
TakenAs taken None = taken ≡ false
TakenAs taken (Some outcome) = taken ≡ true

abbrev pub WroteAs : Bool → (Files → Type 0) → Store → Job → Files → Bool → Type 0
WroteAs sure holds m job before false = holds before
WroteAs sure holds m job before true = ExportsAs sure false holds m (job ∷ []) before

abbrev pub FailsAs : Bool → (Files → Type 0) → Store → Job → Bool → Files → Type 0
FailsAs sure holds m job taken before =
    holds before ⊎ ((taken ≡ true) × ExportsAs sure true holds m (job ∷ []) before)

-- or those before or after one job
abbrev pub ExportsOneAs : Bool → (Files → Type 0) → Store → Job → Files → Type 0
ExportsOneAs sure holds m job before = holds before ⊎ ExportsAs sure true holds m (job ∷ []) before

-- whether some bytes are a text: if that isn't sure, no more than their number is known
pub record IsText (sure : Bool) (bytes text : List ℕ) (same : Bool) : Type 0 where
  pub yes : same ≡ true → AreOf sure bytes text
  pub no : sure ≡ true → same ≡ bytes_eq bytes text

-- the same of a file that is compared with a text: nothing is known of one that couldn't be read
abbrev pub IsLike : Bool → List ℕ → List ℕ → Likeness → Type 0
IsLike sure bytes text found.Same = IsText sure bytes text true
IsLike sure bytes text found.Other = IsText sure bytes text false
IsLike sure bytes text found.Unread = Unit {0}

-- a file that is there isn't the text
abbrev pub differs_from : Option (List ℕ) → List ℕ → Bool
differs_from None text = false
differs_from (Some bytes) text = not (bytes_eq bytes text)

abbrev pub differs_as : Files → Option (List ℕ) → List ℕ → Bool
differs_as files None text = false
differs_as files (Some name) text = differs_from (files name) text

abbrev pub differs_one : Store → Files → Job → Bool
differs_one m files job = differs_as files job.1 (text_at m (upload_of m job.0))

-- ONE OF THE FILES THAT WERE THERE isn't its upload's text, byte for byte
abbrev pub some_differ : Store → Files → List Job → Bool
some_differ m files [] = false
some_differ m files (job ∷ jobs) = differs_one m files job || some_differ m (exported_one m files job) jobs

-- WHETHER ONE DIFFERS, AS IT IS TOLD: only if one does; and whenever one does, if none is unread
pub record TellsOf (told unread differs : Bool) : Type 0 where
  pub only : told ≡ true → differs ≡ true
  pub all : unread ≡ false → told ≡ differs

-- each upload whose text is to be written, where there was no file of its name: the file holds exactly the text
abbrev pub HoldsTexts : Store → List Job → Files → Files → Type 0
HoldsTexts m jobs before now =
    (number : ℕ) (name : List ℕ) → IsJob (number, Some name) jobs → before name ≡ None
    → now name ≡ Some (text_at m (upload_of m number))

-- some files are held, all that were there among them, and these texts
pub record Exports (holds : Files → Type 0) (m : Store) (jobs : List Job) (before : Files) : Type 0 where
  pub now : Files
  pub held : holds now
  pub preserves : PreservesFiles before now
  pub texts : HoldsTexts m jobs before now

-- EVERY TEXT IS IN ITS FILE, exactly and whole, and the file outlasts a crash
pub record HoldsEach (holds : Files → Type 0) (lasting : List ℕ → Type 0) (m : Store) (jobs : List Job) :
    Type 0 where
  pub now : Files
  pub held : holds now
  pub texts : (number : ℕ) (name : List ℕ) → IsJob (number, Some name) jobs
      → now name ≡ Some (text_at m (upload_of m number))
  pub lasts : AllLast lasting jobs

abbrev pub some_amiss : ExportTally → Bool
some_amiss done = done.differs || done.unread

-- what is told of a file that is there, which is compared with a text
abbrev pub IsFound : Bool → List ℕ → List ℕ → Outcome → Type 0
IsFound sure bytes text outcome = is_unread outcome ≡ false → IsText sure bytes text (not (is_other outcome))

-- WHAT IS TOLD OF AN UPLOAD, by the files when it is its turn: its text was written where there was no file of its
-- name, or is in the file that was there, or isn't; or that file couldn't be read or synced
abbrev pub ToldAs : Files → Option (List ℕ) → List ℕ → Outcome → Type 0
ToldAs files None text outcome = outcome ≡ Incomplete
ToldAs files (Some name) text (Exported told) = (told.now ≡ name) × (files name ≡ None)
ToldAs files (Some name) text (There told) = (told.now ≡ name) × (files name ≡ Some text)
ToldAs files (Some name) text (Differs told) = (told.now ≡ name) × (differs_from (files name) text ≡ true)
ToldAs files (Some name) text (Unread told) = (told.now ≡ name) × IsSome (files name)
ToldAs files (Some name) text (Failed told) = ⊥
ToldAs files (Some name) text Incomplete = ⊥

abbrev pub ToldOne : Store → Files → Job → Outcome → Type 0
ToldOne m files job outcome = ToldAs files job.1 (text_at m (upload_of m job.0)) outcome

-- of each
abbrev pub AreTold : Store → Files → List Job → List Outcome → Type 0
AreTold m files [] [] = Unit {0}
AreTold m files (job ∷ jobs) (outcome ∷ outcomes) =
    ToldOne m files job outcome × AreTold m (exported_one m files job) jobs outcomes
AreTold m files _ _ = ⊥

-- how many of some kind
abbrev pub is_exported : Outcome → Bool
is_exported (Exported name) = true
is_exported outcome = false

abbrev pub is_there : Outcome → Bool
is_there (There name) = true
is_there outcome = false

abbrev pub one_if : Bool → ℕ
one_if true = 1
one_if false = 0

abbrev pub how_many : (Outcome → Bool) → List Outcome → ℕ
how_many test [] = 0
how_many test (outcome ∷ outcomes) = one_if (test outcome) + how_many test outcomes

-- a file of this name that was there, and what it came to
abbrev pub IsOfFound : List ℕ → Outcome → Type 0
IsOfFound name (There told) = told.now ≡ name
IsOfFound name (Differs told) = told.now ≡ name
IsOfFound name (Unread told) = told.now ≡ name
IsOfFound name (Exported told) = ⊥
IsOfFound name (Failed told) = ⊥
IsOfFound name Incomplete = ⊥

-- of each: its text was written into this file, or is in it already, or the file is another one or couldn't be read, or
-- writing it failed, or it isn't complete
abbrev pub outcome_line : ℕ → Outcome → List ℕ
outcome_line number (Exported name) = codes "exported " ++ (decimal number ++ (32 ∷ (name.now ++ (10 ∷ []))))
outcome_line number (There name) = codes "there " ++ (decimal number ++ (32 ∷ (name.now ++ (10 ∷ []))))
outcome_line number (Differs name) = codes "differs " ++ (decimal number ++ (32 ∷ (name.now ++ (10 ∷ []))))
outcome_line number (Unread name) = codes "unread " ++ (decimal number ++ (32 ∷ (name.now ++ (10 ∷ []))))
outcome_line number (Failed name) = codes "failed " ++ (decimal number ++ (32 ∷ (name.now ++ (10 ∷ []))))
outcome_line number Incomplete = codes "incomplete " ++ (decimal number ++ (10 ∷ []))

-- of all
abbrev pub summary_end : Bool → List ℕ
summary_end false = codes " there\n"
summary_end true = codes " there; a file that was there isn't the text of its upload\n"

abbrev pub summary_line : ℕ → ℕ → ℕ → Bool → List ℕ
summary_line exported uploads there differs =
    codes "exported " ++ (decimal exported ++ (codes " of " ++ (decimal uploads ++ (codes " uploads, "
    ++ (decimal there ++ summary_end differs)))))

-- THE LINES OF UPLOADS, one for each
abbrev pub told_lines : List Job → List Outcome → List ℕ
told_lines [] outcomes = []
told_lines (job ∷ jobs) [] = []
told_lines (job ∷ jobs) (outcome ∷ outcomes) = outcome_line job.0 outcome ++ told_lines jobs outcomes

-- what is told of each was printed and counted
pub record TellsEach (m : Store) (files : Files) (jobs : List Job) (before after : Option (List ℕ))
    (exported there : ℕ) : Type 0
  where
    pub outcomes : List Outcome
    pub told : AreTold m files jobs outcomes
    pub exported_is : exported ≡ how_many is_exported outcomes
    pub there_is : there ≡ how_many is_there outcomes
    pub wrote : Appends before after (told_lines jobs outcomes)

-- WHAT IS PRINTED of an export, and counted: a line of each upload, and one of all
pub record Tells (m : Store) (files : Files) (jobs : List Job) (before after : Option (List ℕ)) (done : ExportTally) :
    Type 0
  where
    pub outcomes : List Outcome
    pub told : AreTold m files jobs outcomes
    pub exported_is : done.exported ≡ how_many is_exported outcomes
    pub there_is : done.there ≡ how_many is_there outcomes
    pub wrote : Appends before after
        (told_lines jobs outcomes ++ summary_line done.exported (length jobs) done.there done.differs)
