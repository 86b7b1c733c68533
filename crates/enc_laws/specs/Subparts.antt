-- Maximal subparts (Unicode Standard, chapter 3: Table 3-7, and U+FFFD Substitution of Maximal Subparts).
use Rattle.std.specs.Prelude.{ℕ, zero, suc, ◌+◌, ◌-◌, ◌*◌, Bool, true, false, not, ◌&&◌, List, [], ◌∷◌, length, take}
use Rattle.std.specs.Prelude.{drop, if◌then◌else◌}
use Rattle.std.specs.List.{list_any}
use Rattle.enc_model.specs.Index.{within}

-- The ranges of a sequence's bytes.
abbrev pub Ranges : Type 0
Ranges = List (ℕ × ℕ)

-- Table 3-7: the well-formed byte sequences of UTF-8.
abbrev pub utf8_table : List Ranges
utf8_table =
    ((0x00, 0x7F) ∷ [])
    ∷ ((0xC2, 0xDF) ∷ (0x80, 0xBF) ∷ [])
    ∷ ((0xE0, 0xE0) ∷ (0xA0, 0xBF) ∷ (0x80, 0xBF) ∷ [])
    ∷ ((0xE1, 0xEC) ∷ (0x80, 0xBF) ∷ (0x80, 0xBF) ∷ [])
    ∷ ((0xED, 0xED) ∷ (0x80, 0x9F) ∷ (0x80, 0xBF) ∷ [])
    ∷ ((0xEE, 0xEF) ∷ (0x80, 0xBF) ∷ (0x80, 0xBF) ∷ [])
    ∷ ((0xF0, 0xF0) ∷ (0x90, 0xBF) ∷ (0x80, 0xBF) ∷ (0x80, 0xBF) ∷ [])
    ∷ ((0xF1, 0xF3) ∷ (0x80, 0xBF) ∷ (0x80, 0xBF) ∷ (0x80, 0xBF) ∷ [])
    ∷ ((0xF4, 0xF4) ∷ (0x80, 0x8F) ∷ (0x80, 0xBF) ∷ (0x80, 0xBF) ∷ [])
    ∷ []

-- A byte in each range.
abbrev pub fills : Ranges → List ℕ → Bool
fills [] [] = true
fills [] (b ∷ bytes) = false
fills (r ∷ ranges) [] = false
fills (r ∷ ranges) (b ∷ bytes) = within r.0 r.1 b && fills ranges bytes

-- A byte in each of the first ranges.
abbrev pub begins_to_fill : Ranges → List ℕ → Bool
begins_to_fill ranges [] = true
begins_to_fill [] (b ∷ bytes) = false
begins_to_fill (r ∷ ranges) (b ∷ bytes) = within r.0 r.1 b && begins_to_fill ranges bytes

-- A well-formed sequence.
abbrev pub is_sequence : List ℕ → Bool
is_sequence bytes = list_any (λ row. fills row bytes) utf8_table

-- A prefix of a well-formed sequence.
abbrev pub is_prefix : List ℕ → Bool
is_prefix bytes = list_any (λ row. begins_to_fill row bytes) utf8_table

-- The first list that passes a test, or another.
abbrev pub first_where : (List ℕ → Bool) → List (List ℕ) → List ℕ → List ℕ
first_where test [] other = other
first_where test (x ∷ xs) other = if test x then x else first_where test xs other

-- The prefixes of at most four bytes, the longest first.
abbrev pub prefixes : List ℕ → List (List ℕ)
prefixes bytes = take 4 bytes ∷ take 3 bytes ∷ take 2 bytes ∷ take 1 bytes ∷ []

-- The segment that begins here: a well-formed sequence, or else the longest prefix of one, or else a single byte.
abbrev pub segment : List ℕ → List ℕ
segment bytes = first_where is_sequence (prefixes bytes) (first_where is_prefix (prefixes bytes) (take 1 bytes))

-- The segments of the whole list, at most n.
abbrev pub segments_within : ℕ → List ℕ → List (List ℕ)
segments_within zero bytes = []
segments_within (suc n) [] = []
segments_within (suc n) (b ∷ bytes) =
    let here = segment (b ∷ bytes) in here ∷ segments_within n (drop (length here) (b ∷ bytes))

-- The segments of the whole list.
unfoldable pub segments : List ℕ → List (List ℕ)
segments bytes = segments_within (length bytes) bytes

-- The scalar value of a well-formed sequence (Table 3-6).
abbrev pub scalar_of : List ℕ → ℕ
scalar_of (a ∷ []) = a
scalar_of (a ∷ b ∷ []) = (a - 0xC0) * 0x40 + (b - 0x80)
scalar_of (a ∷ b ∷ c ∷ []) = (a - 0xE0) * 0x1000 + (b - 0x80) * 0x40 + (c - 0x80)
scalar_of (a ∷ b ∷ c ∷ d ∷ []) = (a - 0xF0) * 0x40000 + (b - 0x80) * 0x1000 + (c - 0x80) * 0x40 + (d - 0x80)
scalar_of bytes = 0xFFFD

-- The scalar value of a segment: U+FFFD if it isn't well-formed.
abbrev pub segment_scalar : List ℕ → ℕ
segment_scalar here = if is_sequence here then scalar_of here else 0xFFFD

-- It isn't well-formed but may become so.
abbrev pub is_open : List ℕ → Bool
is_open here = is_prefix here && not (is_sequence here)

-- The text of the segments. If the list isn't ended, an unfinished last one gives nothing.
abbrev pub segments_text : Bool → List (List ℕ) → List ℕ
segments_text ended [] = []
segments_text ended (here ∷ []) = if not ended && is_open here then [] else segment_scalar here ∷ []
segments_text ended (here ∷ next ∷ rest) = segment_scalar here ∷ segments_text ended (next ∷ rest)
