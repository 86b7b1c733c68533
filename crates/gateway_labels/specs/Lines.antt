-- The lines of `labels`.
use Rattle.std.specs.Prelude.{ℕ, Bool, true, false, not, ◌&&◌, ◌==◌, List, [], ◌∷◌, ◌++◌, bytes_eq, codes, decimal}
use Rattle.std.specs.Prelude.{flat_map, if◌then◌else◌, Option, Some, None, string_bytes, option_map}
use Rattle.enc_labels.specs.Labels.{name_of}
use Rattle.enc_stream.specs.StateBytes.{encoding_number}
use Rattle.gateway_labels.specs.declared.choice.Choice.{Choice}

-- two choices have the same text, by its digest
abbrev pub have_same : Choice → Choice → Bool
have_same one other = bytes_eq one.digest other.digest

abbrev pub are_of_one : Choice → Choice → Bool
are_of_one one other = encoding_number one.encoding == encoding_number other.encoding

-- another choice has the text of one
abbrev pub is_also : Choice → Choice → Bool
is_also choice other = have_same other choice && not (are_of_one other choice)

-- a choice is the first that has its text
abbrev pub is_first : Choice → List Choice → Bool
is_first choice [] = false
is_first choice (other ∷ rest) = if have_same other choice then are_of_one other choice else is_first choice rest

-- one name more: the first has a joint of its own, the rest have commas
abbrev pub joint_for : List ℕ → List ℕ → List ℕ
joint_for joint [] = joint
joint_for joint (b ∷ names) = codes ", "

abbrev pub behind : List ℕ → List ℕ → List ℕ → List ℕ
behind joint names name = names ++ (joint_for joint names ++ name)

-- THE NAMES OF THE OTHERS that have the text of a choice, behind those that there are
abbrev pub names_behind : List ℕ → Choice → List ℕ → List Choice → List ℕ
names_behind joint choice names [] = names
names_behind joint choice names (other ∷ rest) = names_behind joint choice
    (if is_also choice other then behind joint names (name_of other.encoding) else names) rest

-- what is shown of a text: the line that it has, if it isn't of ASCII alone
abbrev pub shown_in : Option (List ℕ) → List ℕ
shown_in None = codes "ASCII alone"
shown_in (Some line) = line

abbrev pub shown_line : Choice → List ℕ
shown_line choice = shown_in (option_map string_bytes choice.line)

-- THE LINE OF A TEXT: all encodings that give it, how many of its characters are lost, and what is shown of it
abbrev pub text_line : List Choice → Choice → List ℕ
text_line choices choice =
    name_of choice.encoding ++ (names_behind (codes ", also ") choice [] choices ++ (codes ": "
    ++ (decimal choice.lost ++ (codes " lost: " ++ (shown_line choice ++ (10 ∷ []))))))

abbrev pub line_of : List Choice → Choice → List ℕ
line_of choices choice = if is_first choice choices then text_line choices choice else []

abbrev pub lines_of_texts : List Choice → List ℕ
lines_of_texts choices = flat_map (line_of choices) choices

-- a text of ASCII alone isn't strange, and is that of these others too
abbrev pub is_ascii : Option (List ℕ) → Bool
is_ascii None = true
is_ascii (Some line) = false

abbrev pub are_none : List ℕ → Bool
are_none [] = true
are_none (b ∷ names) = false

abbrev pub is_in_common : Choice → List ℕ → Bool
is_in_common choice others =
    is_ascii (option_map string_bytes choice.line) && choice.strangeness == 0 && not (are_none others)

abbrev pub common_line : Choice → List ℕ → List ℕ
common_line first others =
    codes "any of these: " ++ (name_of first.encoding ++ (others ++ codes ": ASCII alone\n"))

abbrev pub lines_after : List Choice → Choice → List ℕ → List ℕ
lines_after choices first others =
    if is_in_common first others then common_line first others else lines_of_texts choices

-- THE LINES OF CHOICES: one for each text, in their order. One of ASCII alone that stands first, isn't strange, and
-- that several have in common, is the only one
abbrev pub label_lines : List Choice → List ℕ
label_lines [] = []
label_lines (first ∷ rest) =
    lines_after (first ∷ rest) first (names_behind (codes ", ") first [] (first ∷ rest))
