-- The files of a folder.
use Rattle.std.specs.Prelude.{List, Option, ℕ}

-- the content of the file of each name, where there is one
abbrev pub Files : Type 0
Files = List ℕ → Option (List ℕ)
