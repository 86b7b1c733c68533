-- Folders by their paths, and which were looked for.
use Rattle.std.specs.Prelude.{ℕ, List, Option}
use Rattle.std.specs.IoError.{error_kind}
use Rattle.std.specs.declared.io.ErrorKind.{ErrorKind}
use Rattle.common.specs.Traces.{trace_of}
use Rattle.gateway_export.specs.declared.places.FindError.{FindError}
use Rattle.gateway_export.specs.declared.places.FindError.TheVariants.{Lock, Look}
use Rattle.gateway_export.specs.declared.places.FolderSearch.{FolderSearch}
use Rattle.gateway_export.specs.declared.places.SystemPlaces.{SystemPlaces}

-- what the system answered where a folder isn't found
abbrev pub find_kind : FindError → ErrorKind
find_kind (Look error) = error_kind error
find_kind (Lock error) = error_kind error

-- this was answered where the folder at this path was looked for
abbrev pub search_for : List ℕ → Option ErrorKind → FolderSearch
search_for path failed = record { path = trace_of path; failed = failed }

-- the record of the file system's folders
abbrev pub searches_of : SystemPlaces → List FolderSearch
searches_of places = places.log.items
