-- What is printed of index files, and of what a spool has.
use Rattle.std.specs.Prelude.{ℕ, Bool, List, [], ◌∷◌, ◌++◌, ◌==◌, codes, count_by, decimal, flat_map}
use Rattle.std.specs.Prelude.{if◌then◌else◌}
use Rattle.gateway_indexes.specs.Digests.{is_there}
use Rattle.gateway_indexes.specs.declared.found.Found.{Found}
use Rattle.gateway_indexes.specs.declared.found.Found.TheVariants.{Missing, Standard, Other}
use Rattle.gateway_indexes.specs.declared.index_files.IndexFile.{IndexFile}
use Rattle.gateway_indexes.specs.declared.surveying.Survey.{Survey}

-- the file was there
abbrev pub is_read : IndexFile → Bool
is_read file = is_there file.found

-- what is printed of an index file
abbrev pub found_lines : IndexFile → Found → List ℕ
found_lines file Missing =
    codes "not offered: " ++ (file.encodings.now ++ (codes ", since " ++ (file.name.now ++ codes " isn't there\n")))
found_lines file Standard = file.name.now ++ (codes ": " ++ (decimal file.standard ++ codes " entries\n"))
found_lines file (Other count) =
    if count == file.standard
    then codes "WARNING: " ++ (file.name.now ++ (codes " isn't the standard's: other entries, though as many ("
    ++ (decimal count ++ (codes ")\nWARNING: texts in " ++ (file.encodings.now
    ++ codes " will be spoiled for good: make the spool again, with the standard's file\n")))))
    else codes "WARNING: " ++ (file.name.now ++ (codes " isn't whole: it has " ++ (decimal count
    ++ (codes " entries, and the standard's " ++ (decimal file.standard ++ (codes "\nWARNING: texts in "
    ++ (file.encodings.now
    ++ codes " will be spoiled for good: make the spool again, with the standard's file\n")))))))

abbrev pub file_lines : IndexFile → List ℕ
file_lines file = found_lines file file.found

-- and where texts are only shown by it: nothing but of another one
abbrev pub other_line_of : IndexFile → Found → List ℕ
other_line_of file (Other count) =
    codes "WARNING: " ++ (file.name.now ++ (codes " isn't the standard's: what is in " ++ (file.encodings.now
    ++ codes " may be read wrong\n")))
other_line_of file found = []

abbrev pub other_line : IndexFile → List ℕ
other_line file = other_line_of file file.found

-- and of an index in a spool: of the standard's nothing
abbrev pub held_lines : IndexFile → Found → List ℕ
held_lines file Missing =
    codes "not offered: " ++ (file.encodings.now ++ (codes ", since the spool has no " ++ (file.name.now ++ (10 ∷ []))))
held_lines file Standard = []
held_lines file (Other count) = file_lines file

abbrev pub spool_lines : IndexFile → List ℕ
spool_lines file = held_lines file file.found

-- how many index files were read, and what is printed of each
abbrev pub read_lines : List IndexFile → List ℕ
read_lines files =
    (codes "index files read: " ++ (decimal (count_by is_read files) ++ (10 ∷ []))) ++ flat_map file_lines files

-- how much of a spool is free
abbrev pub free_line : Survey → List ℕ
free_line survey =
    codes "version " ++ (decimal survey.version ++ (codes ", " ++ (decimal survey.free_blocks
    ++ (codes " of " ++ (decimal survey.blocks ++ (codes " blocks free, " ++ (decimal survey.free_slots
    ++ (codes " of " ++ (decimal 512 ++ codes " slots free\n")))))))))
