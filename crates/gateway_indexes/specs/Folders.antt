-- Folders that index files are in, and what was asked of them.
use Rattle.std.specs.Prelude.{◌≡◌, ◌⊎◌, ℕ, Bool, true, false, List, [], ◌∷◌, Option, Some, None, Err, map, reverse}
use Rattle.std.specs.Borrow.{Bor}
use Rattle.std.specs.declared.io.ErrorKind.{ErrorKind}
use Rattle.common.specs.Traces.{trace_of}
use Rattle.common.specs.declared.stop.Stop.TheVariants.{NoMemory}
use Rattle.enc_model.specs.Indexes.{IndexSet, no_indexes}
use Rattle.enc_index.specs.Files.{pairs_of_file}
use Rattle.enc_index.specs.declared.kind.Kind.{Kind}
use Rattle.enc_index.specs.declared.kind.ReadError.{ReadError}
use Rattle.enc_index.specs.declared.kind.ReadError.TheVariants as lines
use Rattle.gateway_outside.specs.Faults.{reading_fault}
use Rattle.gateway_outside.specs.Files.{Files}
use Rattle.gateway_outside.specs.declared.faults.Fault.{Fault}
use Rattle.gateway_outside.specs.declared.faults.Fault.TheVariants as faults
use Rattle.gateway_indexes.specs.Digests.{found_in}
use Rattle.gateway_indexes.specs.Found.{all_standard, row_for, row_of}
use Rattle.gateway_indexes.specs.IndexFiles.{index_files, with_file}
use Rattle.gateway_indexes.specs.declared.folders.FolderAnswer.{FolderAnswer}
use Rattle.gateway_indexes.specs.declared.folders.FolderAnswer.TheVariants as answers
use Rattle.gateway_indexes.specs.declared.folders.FolderCall.{FolderCall}
use Rattle.gateway_indexes.specs.declared.folders.SystemFolders.{SystemFolders}
use Rattle.gateway_indexes.specs.declared.found.Found.{Found}
use Rattle.gateway_indexes.specs.declared.index_files.IndexFile.{IndexFile}

-- the files of each folder, by its path
abbrev pub Folders : Type 0
Folders = List ℕ → Files

-- this was answered of the file of this name in the folder at this path
abbrev pub folder_call : List ℕ → List ℕ → FolderAnswer → FolderCall
folder_call path name answer = record { folder = trace_of path; file = trace_of name; answer = answer }

-- the folder is there
abbrev pub folder_found : List ℕ → FolderCall
folder_found path = folder_call path [] answers.Found

-- the file has these bytes, or isn't there
abbrev pub file_given : List ℕ → List ℕ → Option (List ℕ) → FolderCall
file_given path name None = folder_call path name answers.Missing
file_given path name (Some bytes) = folder_call path name (answers.Content (trace_of bytes))

-- the call failed; where the folder was looked for, the file has no name
abbrev pub failed_call : List ℕ → List ℕ → ErrorKind → FolderCall
failed_call path name kind = folder_call path name (answers.Failed kind)

-- the record of the file system's folders
abbrev pub calls_to : SystemFolders → List FolderCall
calls_to folders = folders.log.items

-- an index file's name and kind, and its content, where it is there
abbrev pub Given : Type 0
Given = (List ℕ × Kind) × Option (List ℕ)

-- WHAT WAS ASKED, where the files of a folder gave this, the latest first
unfoldable pub asked : List ℕ → List Given → List FolderCall → List FolderCall
asked path [] before = before
asked path (g ∷ given) before = file_given path g.0.0 g.1 ∷ asked path given before

-- and the indexes that they have
unfoldable pub set_of : List Given → IndexSet
set_of [] = no_indexes
set_of (g ∷ given) = with_file (set_of given) g.0.1 g.1

-- these files are the folder's, as far as they were read
unfoldable pub AreOf : Files → List Given → Type 0
AreOf files [] = Unit {0}
AreOf files (g ∷ given) = (g.1 ≡ files g.0.0) × AreOf files given

-- what is told of one
abbrev pub found_of : Given → Found
found_of g = found_in g.0.1 g.1

-- ONE FILE WAS READ: its index is set, where it is there, and it is told as what it has
pub record ReadsFile (have : Folders → Type 0) (path : List ℕ) (row : List ℕ × Kind) (before after : List FolderCall)
    (set set' : IndexSet) (found : Found) : Type 0
  where
    pub content : Option (List ℕ)
    pub call : after ≡ file_given path row.0 content ∷ before
    pub set_is : set' ≡ with_file set row.1 content
    pub found_is : found ≡ found_in row.1 content
    pub agrees : (folders : Folders) → have folders → content ≡ folders path row.0

-- THE FILES OF THESE ROWS WERE READ, each once and in their order: the set is what they gave, and each is told as what
-- it has. Where it is known which files there are, they gave these
pub record ReadsRows (have : Folders → Type 0) (path : List ℕ) (rows : List (List ℕ × Kind))
    (before after : List FolderCall) (set : IndexSet) (files : List IndexFile) : Type 0
  where
    pub given : List Given
    pub each : map (λ g. g.0) given ≡ reverse rows
    pub calls : after ≡ asked path given before
    pub set_is : set ≡ set_of given
    pub told : map row_of files ≡ map row_for rows
    pub found : map (λ file. file.found) files ≡ reverse (map found_of given)
    pub agree : (folders : Folders) → have folders → AreOf (folders path) given

-- ALL INDEX FILES OF A FOLDER WERE READ, which is there
abbrev pub ReadsFolder : (Folders → Type 0) → List ℕ → List FolderCall → List FolderCall → IndexSet → List IndexFile
    → Type 0
ReadsFolder have path before after set files =
    ReadsRows have path index_files (folder_found path ∷ before) after set files

-- why a file of this content isn't an index of its kind: its first bad line, or memory
abbrev pub IsBadLine : Kind → List ℕ → ReadError → Type 0
IsBadLine kind bytes lines.NoMemory = Unit {0}
IsBadLine kind bytes error = pairs_of_file kind bytes ≡ Err error

-- A CALL FAILED, of a file or, without a name, of the folder
pub record CallFails (path name : List ℕ) (before after : List FolderCall) (fault : Fault) : Type 0 where
  pub kind : ErrorKind
  pub call : after ≡ failed_call path name kind ∷ before
  pub fault_is : fault ≡ reading_fault kind

-- A FILE IS NO INDEX of its kind
pub record IsUnlike (path : List ℕ) (row : List ℕ × Kind) (before after : List FolderCall) (fault : Fault) : Type 0
  where
    pub bytes : List ℕ
    pub call : after ≡ file_given path row.0 (Some bytes) ∷ before
    pub file : Bor (List ℕ)
    pub error : ReadError
    pub fault_is : fault ≡ faults.Index file error
    pub named : file.now ≡ row.0
    pub bad : IsBadLine row.1 bytes error

-- WHY A FILE ISN'T READ
abbrev pub IsFileUnread : List ℕ → List ℕ × Kind → List FolderCall → List FolderCall → Fault → Type 0
IsFileUnread path row before after fault =
    CallFails path row.0 before after fault ⊎ IsUnlike path row before after fault

-- WHY INDEX FILES AREN'T READ: after these were, the next one isn't, or memory is refused
pub record IsUnread (path : List ℕ) (before after : List FolderCall) (fault : Fault) : Type 0 where
  pub given : List Given
  pub why : ((row : List ℕ × Kind) × IsFileUnread path row (asked path given before) after fault)
      ⊎ ((after ≡ asked path given before) × (fault ≡ faults.Stop NoMemory))

-- or the folder isn't there
abbrev pub IsFolderUnread : List ℕ → List FolderCall → List FolderCall → Fault → Type 0
IsFolderUnread path before after fault =
    CallFails path [] before after fault ⊎ IsUnread path (folder_found path ∷ before) after fault

-- they were read, and some aren't the standard's, though they have to be
pub record AreOthers (have : Folders → Type 0) (path : List ℕ) (before after : List FolderCall) (standard : Bool)
    (fault : Fault) : Type 0
  where
    pub set : IndexSet
    pub files : List IndexFile
    pub read : ReadsFolder have path before after set files
    pub asked_for : standard ≡ true
    pub others : all_standard files ≡ true → ⊥
    pub fault_is : fault ≡ faults.OtherIndexes

-- WHY THEY AREN'T TAKEN
abbrev pub IsUnwanted : (Folders → Type 0) → List ℕ → List FolderCall → List FolderCall → Bool → Fault → Type 0
IsUnwanted have path before after standard fault =
    IsFolderUnread path before after fault ⊎ AreOthers have path before after standard fault
