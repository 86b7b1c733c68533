-- File names that the metadata of uploads gives.
use Rattle.std.specs.Prelude.{ℕ, Bool, true, false, not, ◌&&◌, ◌||◌, ◌==◌, List, [], ◌∷◌, codes, bytes_eq}
use Rattle.std.specs.Prelude.{nat_le, nat_lt, if◌then◌else◌, Option, Some, None}
use Rattle.std.specs.List.{find, list_all}
use Rattle.std.specs.Str.{chars, is_utf8}
use Rattle.common.specs.Splits.{before, rest_after}
use Rattle.tus_request.specs.Texts.{parts, skipped}
use Rattle.tus_request.specs.Value.{value_of}

-- a pair of metadata without the spaces at the start
abbrev pub pair : List ℕ → List ℕ
pair part = skipped (32 ∷ []) part

-- the pair has the key `filename`
abbrev pub is_named : List ℕ → Bool
is_named part = bytes_eq (before 32 (pair part)) (codes "filename")

-- where its value has the bytes of a text in UTF-8, these
abbrev pub text_in : Option (List ℕ) → Option (List ℕ)
text_in None = None
text_in (Some bytes) = if is_utf8 bytes then Some bytes else None

-- the name that the first pair with that key gives. Spaces round the pair don't count
abbrev pub name_in : Option (List ℕ) → Option (List ℕ)
name_in None = None
name_in (Some part) = text_in (value_of (before 32 (rest_after 32 (pair part))))

-- THE NAME THAT METADATA GIVES
abbrev pub given_name : List ℕ → Option (List ℕ)
given_name metadata = name_in (find is_named (parts metadata))

-- a control character, a mark of direction (061C, 200E, 200F, 202A to 202E, 2066 to 2069), an end of a line (2028,
-- 2029), or one without width (200B, FEFF)
abbrev pub is_hidden : ℕ → Bool
is_hidden c =
    nat_lt c 32 || nat_le 127 c && nat_le c 159 || c == 0x61C || c == 0x200B || nat_le 0x200E c && nat_le c 0x200F
    || nat_le 0x2028 c && nat_le c 0x202E || nat_le 0x2066 c && nat_le c 0x2069 || c == 0xFEFF

-- it is hidden, or a path separator, `/` or `\`
abbrev pub is_barred : ℕ → Bool
is_barred c = is_hidden c || c == 47 || c == 92

-- no character of a text is
abbrev pub is_clean : List ℕ → Bool
is_clean name = list_all (λ c. not (is_barred c)) (chars name)

-- a dot, which hides a file, or a hyphen, as the options of commands have it, is first
abbrev pub begins_with_sign : List ℕ → Bool
begins_with_sign [] = false
begins_with_sign (b ∷ name) = b == 45 || b == 46

-- a blank, or a `*`
abbrev pub is_filler : ℕ → Bool
is_filler b = b == 32 || b == 42

-- A NAME FOR A FILE: no character of it is barred, it begins with neither a dot nor a hyphen, and it has more than
-- blanks and `*`
abbrev pub is_safe_name : List ℕ → Bool
is_safe_name name = not (begins_with_sign name) && not (list_all is_filler name) && is_clean name
