-- An area compared with a set: what is around the entries, and the entries of each file.
use Rattle.std.specs.Prelude.{◌≡◌, ℕ, ◌+◌, ◌*◌, ◌<◌, ◌≤◌, List, Option, slice_index}
use Rattle.enc_model.specs.Index.{Index}
use Rattle.enc_model.specs.Indexes.{IndexSet}
use Rattle.enc_index.specs.declared.area.TheConstants.{AREA_SIZE}
use Rattle.enc_index.specs.declared.sizes.TheConstants.{ENTRIES_END, ENTRIES_START, FILES, JIS0208_POINTERS}
use Rattle.enc_index.specs.declared.sizes.TheConstants.{JIS0212_ENTRY, JIS0212_POINTERS, KATAKANA_ENTRY}
use Rattle.enc_index.specs.declared.sizes.TheConstants.{KATAKANA_POINTERS, SINGLE_BYTE_ENCODINGS, SINGLE_ENTRY}
use Rattle.enc_index.specs.declared.sizes.TheConstants.{SINGLE_POINTERS}
use Rattle.enc_index.specs.Area.{nth_file, flag, entry_of, word_of}

-- The file's entries are in the area from `start` on.
abbrev pub HasEntries : List ℕ → ℕ → ℕ → Option Index → Type 0
HasEntries area start pointers index = (k : ℕ) → k < pointers → word_of area (start + k) ≡ entry_of index k

-- The area has the set's flags.
abbrev pub HasFlags : IndexSet → List ℕ → Type 0
HasFlags x area = (file : ℕ) → file < FILES → slice_index area file ≡ flag (nth_file x file)

-- The bytes from `start` to before `end` are zeros.
abbrev pub HasZeros : List ℕ → ℕ → ℕ → Type 0
HasZeros area start end = (place : ℕ) → start ≤ place → place < end → slice_index area place ≡ 0

-- The area has the set's entries.
pub record HasFiles (x : IndexSet) (area : List ℕ) : Type 0 where
  pub jis0208 : HasEntries area 0 JIS0208_POINTERS (nth_file x 0)
  pub jis0212 : HasEntries area JIS0212_ENTRY JIS0212_POINTERS (nth_file x 1)
  pub katakana : HasEntries area KATAKANA_ENTRY KATAKANA_POINTERS (nth_file x 2)
  pub single : (n : ℕ) → n < SINGLE_BYTE_ENCODINGS →
      HasEntries area (SINGLE_ENTRY + SINGLE_POINTERS * n) SINGLE_POINTERS (nth_file x (3 + n))

-- The area has the set's flags and the zeros.
pub record HasMargins (x : IndexSet) (area : List ℕ) : Type 0 where
  pub flags : HasFlags x area
  pub before : HasZeros area FILES ENTRIES_START
  pub after : HasZeros area ENTRIES_END AREA_SIZE
