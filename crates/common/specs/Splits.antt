-- The parts of a text around the first of its marks.
use Rattle.std.specs.Prelude.{ℕ, List, [], ◌∷◌, ◌==◌, if◌then◌else◌}

-- The bytes before the first mark, or all.
abbrev pub before : ℕ → List ℕ → List ℕ
before mark [] = []
before mark (b ∷ bytes) = if b == mark then [] else b ∷ before mark bytes

-- The bytes after the first mark, or none.
abbrev pub rest_after : ℕ → List ℕ → List ℕ
rest_after mark [] = []
rest_after mark (b ∷ bytes) = if b == mark then bytes else rest_after mark bytes
