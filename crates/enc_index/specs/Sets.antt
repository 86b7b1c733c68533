-- Valid index sets.
use Rattle.std.specs.Prelude.{◌≡◌, ℕ, true, None, IfSome, length, slice_index_or}
use Rattle.enc_model.specs.Index.{Index}
use Rattle.enc_model.specs.Indexes.{IndexSet}
use Rattle.enc_index.specs.declared.sizes.TheConstants.{JIS0208_POINTERS, JIS0212_POINTERS, KATAKANA_POINTERS}
use Rattle.enc_index.specs.declared.sizes.TheConstants.{SINGLE_BYTE_ENCODINGS, SINGLE_POINTERS}
use Rattle.enc_index.specs.Entries.{ascends}

-- An index with this many pointers: they ascend, and each has a scalar value.
abbrev pub IsIndex : ℕ → Index → Type 0
IsIndex pointers index = ascends 0 pointers index ≡ true

-- Each index of the set is one of its kind.
pub record IsIndexSet (x : IndexSet) : Type 0 where
  pub jis0208 : IfSome x.jis0208 (IsIndex JIS0208_POINTERS)
  pub jis0212 : IfSome x.jis0212 (IsIndex JIS0212_POINTERS)
  pub katakana : IfSome x.katakana (IsIndex KATAKANA_POINTERS)
  pub single : (place : ℕ) → IfSome (slice_index_or x.single place None) (IsIndex SINGLE_POINTERS)
  pub places : length x.single ≡ SINGLE_BYTE_ENCODINGS
