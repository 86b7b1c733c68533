-- A folder of index files in memory.
use Rattle.std.specs.Prelude.{◌≡◌, ℕ, List, [], ◌∷◌, Option, None, Some, bytes_eq, if◌then◌else◌, string_bytes}
use Rattle.gateway_indexes.specs.Folders.{Folders}
use Rattle.gateway_indexes.specs.declared.folders.FolderCall.{FolderCall}
use Rattle.gateway_indexes.specs.declared.memory.HeldFile.{HeldFile}
use Rattle.gateway_indexes.specs.declared.memory.MemoryFolder.{MemoryFolder}

-- its path, its files, and what was asked of it
abbrev pub path_in : MemoryFolder → List ℕ
path_in folder = string_bytes folder.path

abbrev pub files_in : MemoryFolder → List HeldFile
files_in folder = folder.files.items

abbrev pub calls_in : MemoryFolder → List FolderCall
calls_in folder = folder.log.items

-- the content of the first file of this name
unfoldable pub content_in : List ℕ → List HeldFile → Option (List ℕ)
content_in name [] = None
content_in name (file ∷ files) =
    if bytes_eq (string_bytes file.name) name then Some file.content.items else content_in name files

-- these are the files at its path; of other paths nothing is known
abbrev pub AreIn : MemoryFolder → Folders → Type 0
AreIn folder folders = (name : List ℕ) → folders (path_in folder) name ≡ content_in name (files_in folder)
