-- Parts of header values.
use Rattle.std.specs.Prelude.{ℕ, Bool, List, [], ◌∷◌, map, reverse, bytes_eq, ◌==◌, if◌then◌else◌}
use Rattle.std.specs.List.{list_any, slice_split}
use Rattle.std.specs.Char.{to_ascii_lowercase}

-- The text in lower case.
abbrev pub lowered : List ℕ → List ℕ
lowered = map to_ascii_lowercase

-- The text is the word, compared without case.
abbrev pub any_case : List ℕ → List ℕ → Bool
any_case word text = bytes_eq (lowered text) (lowered word)

-- The byte is one of the blanks.
abbrev pub is_blank : List ℕ → ℕ → Bool
is_blank blanks b = list_any (λ blank. blank == b) blanks

-- The text without blanks at its start.
abbrev pub skipped : List ℕ → List ℕ → List ℕ
skipped blanks [] = []
skipped blanks (b ∷ bytes) = if is_blank blanks b then skipped blanks bytes else b ∷ bytes

-- The text without blanks at both ends.
abbrev pub trimmed : List ℕ → List ℕ → List ℕ
trimmed blanks bytes = reverse (skipped blanks (reverse (skipped blanks bytes)))

-- The parts between commas.
abbrev pub parts : List ℕ → List (List ℕ)
parts text = slice_split (λ b. b == 44) text

-- The list has the word, compared without case. Spaces and tabs around a part are ignored.
abbrev pub lists_word : List ℕ → List ℕ → Bool
lists_word word text = list_any (λ part. any_case word (trimmed (32 ∷ 9 ∷ []) part)) (parts text)
