-- The index of a kind.
use Rattle.std.specs.Prelude.{◌≡◌, ℕ, List, Option, Some, None, Result, Ok, Err, slice_set}
use Rattle.enc_model.specs.Index.{Index}
use Rattle.enc_model.specs.Encode.{Tables}
use Rattle.enc_model.specs.Indexes.{IndexSet, single_byte_place, single_of}
use Rattle.enc_index.specs.declared.kind.Kind.{Kind}
use Rattle.enc_index.specs.declared.kind.Kind.TheVariants.{Jis0208, Jis0212, Katakana, Single}
use Rattle.enc_index.specs.declared.kind.ReadError.{ReadError}
use Rattle.enc_index.specs.declared.kind.ReadError.TheVariants.{NoMemory}
use Rattle.enc_index.specs.Files.{pairs_of_file}

-- The index of a kind.
abbrev pub table_of : Tables → Kind → Index
table_of t Jis0208 = t.jis0208
table_of t Jis0212 = t.jis0212
table_of t Katakana = t.katakana
table_of t (Single e) = t.single e

-- The index of a kind, if its file was given.
abbrev pub index_of : IndexSet → Kind → Option Index
index_of x Jis0208 = x.jis0208
index_of x Jis0212 = x.jis0212
index_of x Katakana = x.katakana
index_of x (Single e) = single_of x e

pub record KindedIndex : Type 0 where
  pub kind : Kind
  pub pairs : Index

-- Reading a file gives its pairs or its first bad line, unless it is out of memory.
abbrev pub IsReadingOfIndex : Kind → List ℕ → Result KindedIndex ReadError → Type 0
IsReadingOfIndex kind bytes (Ok index) = (index.kind ≡ kind) × (pairs_of_file kind bytes ≡ Ok index.pairs)
IsReadingOfIndex kind bytes (Err NoMemory) = Unit {0}
IsReadingOfIndex kind bytes (Err e) = pairs_of_file kind bytes ≡ Err e

-- The indexes with another one at this place.
abbrev pub set_place : List (Option Index) → Option ℕ → Index → List (Option Index)
set_place single None index = single
set_place single (Some place) index = slice_set single place (Some index)

-- The set with another index of this kind.
abbrev pub set_kind : IndexSet → Kind → Index → IndexSet
set_kind x Jis0208 index = record x { jis0208 = Some index }
set_kind x Jis0212 index = record x { jis0212 = Some index }
set_kind x Katakana index = record x { katakana = Some index }
set_kind x (Single e) index = record x { single = set_place x.single (single_byte_place e) index }

-- The set with this index in place of the one of its kind.
abbrev pub with_index : IndexSet → KindedIndex → IndexSet
with_index x index = set_kind x index.kind index.pairs
