-- The index area: an index set as 90,112 bytes, which are 22 pages of 4,096.
use Rattle.std.specs.Prelude.{◌≡◌, ℕ, ◌+◌, ◌-◌, ◌*◌, ◌/◌, ◌%◌, ◌<◌, List, [], ◌∷◌, Option, Some, None, Result, Ok, Err}
use Rattle.std.specs.Prelude.{IfSome, length, slice_index, slice_index_or, unwrap_or, ◌==◌, nat_lt, if◌then◌else◌}
use Rattle.std.specs.Int.{to_be_bytes, from_be_bytes, w32}
use Rattle.enc_model.specs.Index.{Index, code}
use Rattle.enc_model.specs.Indexes.{IndexSet, pairs_of}
use Rattle.enc_index.specs.declared.area.TheConstants.{AREA_SIZE}
use Rattle.enc_index.specs.declared.kind.AreaError.{AreaError}
use Rattle.enc_index.specs.declared.kind.AreaError.TheVariants.{NoMemory}
use Rattle.enc_index.specs.declared.sizes.TheConstants.{ENTRIES_END, ENTRIES_START, FILES}
use Rattle.enc_index.specs.declared.sizes.TheConstants.{JIS0212_ENTRY, KATAKANA_ENTRY, SINGLE_ENTRY, SINGLE_POINTERS}
use Rattle.enc_index.specs.Scalars.{is_scalar}
use Rattle.enc_index.specs.Sets.{IsIndex}

-- The eighteen files in their order: jis0208, jis0212, katakana, and the single-byte encodings.
abbrev pub nth_file : IndexSet → ℕ → Option Index
nth_file x n =
    if n == 0 then x.jis0208
    else if n == 1 then x.jis0212
    else if n == 2 then x.katakana
    else slice_index_or x.single (n - 3) None

-- 1 if the file was given.
abbrev pub flag : Option Index → ℕ
flag None = 0
flag (Some index) = 1

-- The file and the pointer of an entry: the tables follow one another.
abbrev pub spot_of : ℕ → ℕ × ℕ
spot_of entry =
    if nat_lt entry JIS0212_ENTRY then (0, entry)
    else if nat_lt entry KATAKANA_ENTRY then (1, entry - JIS0212_ENTRY)
    else if nat_lt entry SINGLE_ENTRY then (2, entry - KATAKANA_ENTRY)
    else (3 + (entry - SINGLE_ENTRY) / SINGLE_POINTERS, (entry - SINGLE_ENTRY) % SINGLE_POINTERS)

-- A code point, or FFFFFFFF for none.
abbrev pub entry_of : Option Index → ℕ → ℕ
entry_of index pointer = unwrap_or (code (pairs_of index) pointer) 0xFFFFFFFF

-- An entry of the tables.
unfoldable pub entry_at : IndexSet → ℕ → ℕ
entry_at x entry = entry_of (nth_file x (spot_of entry).0) (spot_of entry).1

-- A byte of the entries: each has four, big-endian.
abbrev pub entries_byte : IndexSet → ℕ → ℕ
entries_byte x place = slice_index (to_be_bytes w32 (entry_at x (place / 4))) (place % 4)

-- A byte of the area: 18 flags, 1 if the file was given; zeros up to byte 31; 22,099 entries; zeros.
unfoldable pub area_byte : IndexSet → ℕ → ℕ
area_byte x place =
    if nat_lt place FILES then flag (nth_file x place)
    else if nat_lt place ENTRIES_START then 0
    else if nat_lt place ENTRIES_END then entries_byte x (place - ENTRIES_START)
    else 0

-- These bytes are the area of the set.
pub record IsAreaOf (x : IndexSet) (area : List ℕ) : Type 0 where
  pub long : length area ≡ AREA_SIZE
  pub bytes : (place : ℕ) → place < AREA_SIZE → slice_index area place ≡ area_byte x place

-- The set is given back, unless it is out of memory.
abbrev pub GivesSet : Result IndexSet AreaError → IndexSet → Type 0
GivesSet (Ok set) x = set ≡ x
GivesSet (Err e) x = e ≡ NoMemory

-- Decoding an area.

-- An entry of an area.
abbrev pub word_of : List ℕ → ℕ → ℕ
word_of area entry =
    let place = ENTRIES_START + 4 * entry in
    from_be_bytes w32 (slice_index area place ∷ slice_index area (place + 1) ∷ slice_index area
    (place + 2) ∷ slice_index area (place + 3) ∷ [])

-- The code point of an entry.
abbrev pub scalar_in_entry : ℕ → Option ℕ
scalar_in_entry word = if is_scalar word then Some word else None

-- The area has the file's flag and entries.
pub record IsFileIn (area : List ℕ) (file start pointers : ℕ) (index : Option Index) : Type 0 where
  pub flagged : slice_index area file ≡ flag index
  pub valid : IfSome index (IsIndex pointers)
  pub words : (k : ℕ) → k < pointers → word_of area (start + k) ≡ entry_of index k
