-- What is told of the index files of a folder.
use Rattle.std.specs.Prelude.{◌≡◌, ℕ, Bool, true, List, map}
use Rattle.std.specs.List.{list_all}
use Rattle.enc_index.specs.declared.kind.Kind.{Kind}
use Rattle.gateway_outside.specs.Files.{Files}
use Rattle.gateway_indexes.specs.Digests.{found_in, is_as_standard}
use Rattle.gateway_indexes.specs.IndexFiles.{index_files, standard_entries}
use Rattle.gateway_indexes.specs.declared.found.Found.{Found}
use Rattle.gateway_indexes.specs.declared.index_files.IndexFile.{IndexFile}

-- a file's name, and how many entries the standard's has
abbrev pub row_of : IndexFile → List ℕ × ℕ
row_of file = (file.name.now, file.standard)

abbrev pub row_for : List ℕ × Kind → List ℕ × ℕ
row_for row = (row.0, standard_entries row.1)

-- what a folder's file of this name has, as an index of this kind
abbrev pub found_by : Files → List ℕ × Kind → Found
found_by files row = found_in row.1 (files row.0)

-- ALL OF THEM ARE THE STANDARD'S
abbrev pub all_standard : List IndexFile → Bool
all_standard = list_all (λ file. is_as_standard file.found)

abbrev pub AreStandard : List IndexFile → Type 0
AreStandard files = (map row_of files ≡ map row_for index_files) × (all_standard files ≡ true)
