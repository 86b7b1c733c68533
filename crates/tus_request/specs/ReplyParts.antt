-- The lines that replies are made of.
use Rattle.std.specs.Prelude.{ℕ, List, [], ◌∷◌, ◌++◌}
use Rattle.tus_request.specs.declared.replies.parts.Line.{Line}

-- The bytes of a header line.
abbrev pub line_shown : Line → List ℕ
line_shown l = l.name.now ++ (l.value.now ++ l.end.now)

-- The bytes of these lines.
abbrev pub lines_shown : List Line → List ℕ
lines_shown [] = []
lines_shown (line ∷ lines) = line_shown line ++ lines_shown lines
