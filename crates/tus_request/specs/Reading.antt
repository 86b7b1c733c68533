-- The request head of some bytes, as a function.
use Rattle.std.specs.Prelude.{ℕ, ◌-◌, Bool, ◌&&◌, List, [], ◌∷◌, length, nat_lt, nat_le, bytes_eq, if◌then◌else◌, ◌==◌}
use Rattle.std.specs.Prelude.{Option, Some, None, get_or}
use Rattle.std.specs.List.{list_all}
use Rattle.std.specs.Str.{is_utf8}
use Rattle.httparse.specs.Grammar.{LineEnd, crlf, lf, is_token, is_uri_byte, is_value_byte, Field, RequestHead}
use Rattle.httparse.specs.Grammar.{print_request}
use Rattle.common.specs.Splits.{before, rest_after}
use Rattle.tus_request.specs.Lines.{lines, is_empty_line}

-- A line without its end.
abbrev pub line_text : List ℕ → List ℕ
line_text [] = []
line_text (b ∷ line) = if is_empty_line (b ∷ line) then [] else b ∷ line_text line

-- The end of a line.
abbrev pub line_end_of : List ℕ → LineEnd
line_end_of [] = lf
line_end_of (b ∷ line) = if is_empty_line (b ∷ line) then (if b == 13 then crlf else lf) else line_end_of line

-- The field of a line.
abbrev pub field_of : List ℕ → Field
field_of line = record { name = before 58 line; raw = line_text (rest_after 58 line); end = line_end_of line }

-- The fields of the lines before the empty one.
abbrev pub fields_of : List (List ℕ) → List Field
fields_of [] = []
fields_of (line ∷ rest) = if is_empty_line line then [] else field_of line ∷ fields_of rest

-- The end of the empty line.
abbrev pub last_of : List (List ℕ) → LineEnd
last_of [] = lf
last_of (line ∷ rest) = if is_empty_line line then line_end_of line else last_of rest

-- The ends of the empty lines at the start.
abbrev pub blank_of : List (List ℕ) → List LineEnd
blank_of [] = []
blank_of (line ∷ rest) = if is_empty_line line then line_end_of line ∷ blank_of rest else []

-- The lines after those.
abbrev pub filled : List (List ℕ) → List (List ℕ)
filled [] = []
filled (line ∷ rest) = if is_empty_line line then filled rest else line ∷ rest

-- The head that these lines would be.
abbrev pub head_with : List LineEnd → List (List ℕ) → RequestHead
head_with blank [] = record {
  blank = blank;
  method = [];
  target = [];
  minor = 0;
  line_end = lf;
  fields = [];
  last = lf;
}
head_with blank (line ∷ rest) = record {
  blank = blank;
  method = before 32 line;
  target = before 32 (rest_after 32 line);
  minor = get_or (rest_after 32 (rest_after 32 line)) 7 48 - 48;
  line_end = line_end_of line;
  fields = fields_of rest;
  last = last_of rest;
}

-- The head that the bytes would be.
abbrev pub guess : List ℕ → RequestHead
guess head = head_with (blank_of (lines head)) (filled (lines head))

-- Each part of a field has only bytes of its class.
abbrev pub is_field : Field → Bool
is_field f = is_token f.name && list_all is_value_byte f.raw

-- Each part of a head has only bytes of its class.
abbrev pub is_request_head : RequestHead → Bool
is_request_head h =
    is_token h.method && nat_lt 0 (length h.target) && list_all is_uri_byte h.target && is_utf8 h.target
    && nat_le h.minor 1 && list_all is_field h.fields

-- The request head of the bytes, if they are one: it is guessed, printed and compared.
abbrev pub request_of : List ℕ → Option RequestHead
request_of head = if is_request_head (guess head) && bytes_eq head (print_request (guess head)) then Some (guess head)
    else None
