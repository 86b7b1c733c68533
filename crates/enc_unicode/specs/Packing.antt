-- Units packed as UTF-8, by places in words of four bytes.
use Rattle.std.specs.Prelude.{ℕ, ◌+◌, ◌*◌, ◌/◌, ◌%◌, List, [], ◌∷◌, ◌++◌, ltb, if◌then◌else◌}
use Rattle.std.specs.List.{range_with_len}

-- A number whose lowest bytes are the unit's UTF-8.
abbrev pub utf8_word : ℕ → ℕ
utf8_word u =
    if ltb u 0x80 then u
    else if ltb u 0x800 then 0x80C0 + u / 64 + 256 * (u % 64)
    else 0x8080E0 + u / 4096 + 256 * (u / 64 % 64) + 65536 * (u % 64)

-- Numbers of four bytes, the lowest first.
abbrev pub word_bytes : List ℕ → List ℕ
word_bytes [] = []
word_bytes (w ∷ ws) = w % 256 ∷ w / 256 % 256 ∷ w / 65536 % 256 ∷ w / 16777216 % 256 ∷ word_bytes ws

-- How many bytes of UTF-8 a unit takes.
abbrev pub utf8_size : ℕ → ℕ
utf8_size u = if ltb u 0x80 then 1 else if ltb u 0x800 then 2 else 3

-- The places of the first bytes of words, from a place on.
abbrev pub places : ℕ → List ℕ → List ℕ
places at [] = []
places at (n ∷ ns) = range_with_len at n ++ places (at + 4) ns

-- How many bytes each unit takes.
abbrev pub sizes : List ℕ → List ℕ
sizes [] = []
sizes (u ∷ us) = utf8_size u ∷ sizes us

-- The places of the UTF-8 bytes of four units.
abbrev pub row_of : List ℕ → List ℕ
row_of units = places 0 (sizes units)

-- A number whose lowest bytes are the UTF-8 of a unit below 800.
abbrev pub narrow_word : ℕ → ℕ
narrow_word u = if ltb u 0x80 then u else 0x80C0 + u / 64 + 256 * (u % 64)

-- Numbers of two bytes, the lowest first.
abbrev pub narrow_word_bytes : List ℕ → List ℕ
narrow_word_bytes [] = []
narrow_word_bytes (w ∷ ws) = w % 256 ∷ w / 256 % 256 ∷ narrow_word_bytes ws

-- The places of the first bytes of two-byte numbers, from a place on.
abbrev pub narrow_places : ℕ → List ℕ → List ℕ
narrow_places at [] = []
narrow_places at (n ∷ ns) = range_with_len at n ++ narrow_places (at + 2) ns

-- The places of the UTF-8 bytes of eight units below 800.
abbrev pub narrow_row_of : List ℕ → List ℕ
narrow_row_of units = narrow_places 0 (sizes units)
