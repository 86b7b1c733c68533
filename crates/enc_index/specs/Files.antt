-- Index files (Encoding Standard, section 5): the pairs of the lines, or the first bad line.
use Rattle.std.specs.Prelude.{ℕ, ◌+◌, ◌-◌, ◌*◌, Bool, true, ◌&&◌, List, [], ◌∷◌, Option, Some, None, Result, Ok, Err}
use Rattle.std.specs.Prelude.{length, drop, take, slice_index, ◌==◌, nat_lt, nat_le, if◌then◌else◌}
use Rattle.std.specs.Char.{digit_value}
use Rattle.common.specs.Splits.{before}
use Rattle.enc_model.specs.Index.{Index, code}
use Rattle.enc_model.specs.Decode.{begins}
use Rattle.enc_index.specs.Scalars.{is_scalar}
use Rattle.enc_index.specs.declared.kind.Kind.{Kind}
use Rattle.enc_index.specs.declared.kind.Kind.TheVariants.{Jis0208, Jis0212, Katakana, Single}
use Rattle.enc_index.specs.declared.kind.ReadError.{ReadError}
use Rattle.enc_index.specs.declared.kind.ReadError.TheVariants.{Line, Range, Twice}
use Rattle.enc_index.specs.declared.sizes.TheConstants.{JIS0208_POINTERS, JIS0212_POINTERS, KATAKANA_POINTERS}
use Rattle.enc_index.specs.declared.sizes.TheConstants.{SINGLE_POINTERS}

-- How many pointers an index of this kind has.
abbrev pub pointers_of : Kind → ℕ
pointers_of Jis0208 = JIS0208_POINTERS
pointers_of Jis0212 = JIS0212_POINTERS
pointers_of Katakana = KATAKANA_POINTERS
pointers_of (Single e) = SINGLE_POINTERS

-- The bytes after the first mark; none where there is no mark.
unfoldable pub rest_if_any : ℕ → List ℕ → Option (List ℕ)
rest_if_any mark [] = None
rest_if_any mark (b ∷ bytes) = if b == mark then Some bytes else rest_if_any mark bytes

-- Lines.

-- A byte before the first line.
abbrev pub onto_first_line : ℕ → List (List ℕ) → List (List ℕ)
onto_first_line b [] = (b ∷ []) ∷ []
onto_first_line b (line ∷ lines) = (b ∷ line) ∷ lines

-- The pieces between LFs.
unfoldable pub pieces : List ℕ → List (List ℕ)
pieces [] = [] ∷ []
pieces (b ∷ bytes) = if b == 0x0A then [] ∷ pieces bytes else onto_first_line b (pieces bytes)

-- The line without a CR at its end.
abbrev pub without_cr : List ℕ → List ℕ
without_cr line = if slice_index line (length line - 1) == 0x0D then take (length line - 1) line else line

-- A CR before an LF belongs to neither line.
unfoldable pub without_crs : List (List ℕ) → List (List ℕ)
without_crs [] = []
without_crs (last ∷ []) = last ∷ []
without_crs (line ∷ next ∷ lines) = without_cr line ∷ without_crs (next ∷ lines)

-- The lines of a file.
abbrev pub lines_of : List ℕ → List (List ℕ)
lines_of bytes = without_crs (pieces bytes)

-- The lines after an LF.
abbrev pub lines_after : Option (List ℕ) → List (List ℕ)
lines_after None = []
lines_after (Some rest) = lines_of rest

-- Empty lines and those that begin with `#` are ignored.
abbrev pub is_dropped : List ℕ → Bool
is_dropped [] = true
is_dropped (b ∷ line) = b == 0x23

-- Fields.

-- The number goes on with these digits.
unfoldable pub number_onward : ℕ → ℕ → List ℕ → Option ℕ
number_onward base n [] = Some n
number_onward base n (b ∷ digits) =
    if nat_lt (digit_value b) base then number_onward base (n * base + digit_value b) digits else None

-- A number in this base of one or more digits, at most `most`.
abbrev pub number_in_base : ℕ → ℕ → List ℕ → Option ℕ
number_in_base base most digits =
    if nat_le 1 (length digits) && nat_le (length digits) most then number_onward base 0 digits else None

-- The field without spaces at its start.
unfoldable pub without_spaces : List ℕ → List ℕ
without_spaces [] = []
without_spaces (b ∷ bytes) = if b == 0x20 then without_spaces bytes else b ∷ bytes

-- The field without a leading `0x`.
abbrev pub without_0x : List ℕ → List ℕ
without_0x bytes = if begins (0x30 ∷ 0x78 ∷ []) bytes then drop 2 bytes else bytes

-- A pointer: spaces, and then 1 to 6 decimal digits.
abbrev pub pointer_of : List ℕ → Option ℕ
pointer_of field = number_in_base 10 6 (without_spaces field)

-- A code point: 1 to 8 hexadecimal digits.
abbrev pub point_of : List ℕ → Option ℕ
point_of field = number_in_base 16 8 (without_0x field)

-- Both numbers, if both are valid.
abbrev pub both : Option ℕ → Option ℕ → Option (ℕ × ℕ)
both (Some p) (Some c) = Some (p, c)
both p c = None

-- The code point up to the next TAB, or to the line's end.
abbrev pub next_point : Option (List ℕ) → Option ℕ
next_point None = None
next_point (Some rest) = point_of (before 0x09 rest)

-- The first two fields of a line. Others are ignored.
unfoldable pub pair_of : List ℕ → Option (ℕ × ℕ)
pair_of line = both (pointer_of (before 0x09 line)) (next_point (rest_if_any 0x09 line))

-- Pairs.

-- The index with another pair, in the order of the pointers.
unfoldable pub inserted : ℕ → ℕ → Index → Index
inserted p c [] = (p, c) ∷ []
inserted p c (pair ∷ index) = if nat_lt p pair.0 then (p, c) ∷ pair ∷ index else pair ∷ inserted p c index

-- The index with the pair of line n, unless its pointer occurred before.
abbrev pub unless_given : ℕ → ℕ × ℕ → Index → Option ℕ → Result Index ReadError
unless_given n pair index None = Ok (inserted pair.0 pair.1 index)
unless_given n pair index (Some c) = Err (Twice n)

-- The index with the pair of line n, if that is in range.
abbrev pub with_pair : ℕ → ℕ → Index → Option (ℕ × ℕ) → Result Index ReadError
with_pair bound n index None = Err (Line n)
with_pair bound n index (Some pair) =
    if nat_lt pair.0 bound && is_scalar pair.1 then unless_given n pair index (code index pair.0) else Err (Range n)

-- The index with the pair of line n, if the line has one.
unfoldable pub with_line : ℕ → ℕ → Index → List ℕ → Result Index ReadError
with_line bound n index line = if is_dropped line then Ok index else with_pair bound n index (pair_of line)

-- The next step, unless there is an error.
abbrev pub and_then : Result Index ReadError → (Index → Result Index ReadError) → Result Index ReadError
and_then (Ok index) more = more index
and_then (Err e) more = Err e

-- The index with the pairs of all lines from line n on.
unfoldable pub with_lines : ℕ → ℕ → Index → List (List ℕ) → Result Index ReadError
with_lines bound n index [] = Ok index
with_lines bound n index (line ∷ lines) =
    and_then (with_line bound n index line) (λ next. with_lines bound (n + 1) next lines)

-- The pairs of a file, or its first bad line, counted from 1.
unfoldable pub pairs_of_file : Kind → List ℕ → Result Index ReadError
pairs_of_file kind bytes = with_lines (pointers_of kind) 1 [] (lines_of bytes)
