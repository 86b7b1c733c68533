-- A folder in memory, and the one at a path.
use Rattle.std.specs.Prelude.{◌≡◌, ◌⊎◌, ℕ, Bool, List, [], ◌∷◌, Option, None, Some, bytes_eq, length, nat_le}
use Rattle.std.specs.Prelude.{if◌then◌else◌, string_bytes}
use Rattle.common.specs.Traces.{trace_of}
use Rattle.common.specs.declared.trace.Trace.{Trace}
use Rattle.gateway_outside.specs.Files.{Files}
use Rattle.gateway_export.specs.declared.memory.HeldText.{HeldText}
use Rattle.gateway_export.specs.declared.memory.MemoryPlace.{MemoryPlace}
use Rattle.gateway_export.specs.declared.memory.MemoryTexts.{MemoryTexts}
use Rattle.gateway_export.specs.declared.places.FolderSearch.{FolderSearch}

-- its files, and the most bytes of a name that it takes
abbrev pub files_in : MemoryTexts → List HeldText
files_in folder = folder.files.items

abbrev pub longest_in : MemoryTexts → ℕ
longest_in folder = folder.longest

-- the names of files that it takes
abbrev pub takes_in : MemoryTexts → List ℕ → Bool
takes_in folder name = nat_le (length name) (longest_in folder)

-- the content of the first file of this name
unfoldable pub content_in : List ℕ → List HeldText → Option (List ℕ)
content_in name [] = None
content_in name (file ∷ files) =
    if bytes_eq name (string_bytes file.name) then Some file.content.items else content_in name files

-- WHAT IT HOLDS: these files, of names that it takes
abbrev pub text_in : MemoryTexts → Files
text_in folder name = if takes_in folder name then content_in name (files_in folder) else None

abbrev pub HoldsFiles : MemoryTexts → Files → Type 0
HoldsFiles folder files = (name : List ℕ) → files name ≡ text_in folder name

-- the names of those that were made to last, the latest first
abbrev pub lasting_in : MemoryTexts → List (Trace ℕ)
lasting_in folder = folder.lasting.items

abbrev pub IsAmong : List (Trace ℕ) → Trace ℕ → Type 0
IsAmong [] name = ⊥
IsAmong (first ∷ names) name = (name ≡ first) ⊎ IsAmong names name

abbrev pub LastsIn : MemoryTexts → List ℕ → Type 0
LastsIn folder name = IsAmong (lasting_in folder) (trace_of name)

-- what it refused
abbrev pub refusals_in : MemoryTexts → ℕ
refusals_in folder = folder.refusals

abbrev pub unread_in : MemoryTexts → ℕ
unread_in folder = folder.unread

-- the path of a folder, the one that is there while it isn't out, and which were looked for
abbrev pub path_at : MemoryPlace → List ℕ
path_at place = string_bytes place.path

abbrev pub folder_at : MemoryPlace → Option MemoryTexts
folder_at place = place.folder

abbrev pub searches_at : MemoryPlace → List FolderSearch
searches_at place = place.log.items
