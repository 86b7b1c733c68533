-- The index set: the index files that the operator gave, and the encodings that they enable.
use Rattle.std.specs.Prelude.{ℕ, Bool, true, false, ◌&&◌, List, [], Option, Some, None, replicate, slice_index_or}
use Rattle.enc_model.specs.declared.Encoding.{Encoding}
use Rattle.enc_model.specs.declared.Encoding.TheVariants as encodings
use Rattle.enc_model.specs.Index.{Index}
use Rattle.enc_model.specs.Encode.{Tables}

-- The index of each file that was given. `single` has a place for each of the fifteen single-byte encodings, in their
-- order.
pub record IndexSet : Type 0 where
  pub jis0208 : Option Index
  pub jis0212 : Option Index
  pub katakana : Option Index
  pub single : List (Option Index)

-- No file was given.
abbrev pub no_indexes : IndexSet
no_indexes = record { jis0208 = None; jis0212 = None; katakana = None; single = replicate 15 None }

-- The place of a single-byte encoding.
abbrev pub single_byte_place : Encoding → Option ℕ
single_byte_place encodings.Ibm866 = Some 0
single_byte_place encodings.Iso8859X2 = Some 1
single_byte_place encodings.Iso8859X5 = Some 2
single_byte_place encodings.Iso8859X15 = Some 3
single_byte_place encodings.Koi8R = Some 4
single_byte_place encodings.Macintosh = Some 5
single_byte_place encodings.Windows1250 = Some 6
single_byte_place encodings.Windows1251 = Some 7
single_byte_place encodings.Windows1252 = Some 8
single_byte_place encodings.Windows1253 = Some 9
single_byte_place encodings.Windows1254 = Some 10
single_byte_place encodings.Windows1255 = Some 11
single_byte_place encodings.Windows1256 = Some 12
single_byte_place encodings.Windows1257 = Some 13
single_byte_place encodings.Windows1258 = Some 14
single_byte_place e = None

-- The index at a place.
abbrev pub at_place : List (Option Index) → Option ℕ → Option Index
at_place single None = None
at_place single (Some p) = slice_index_or single p None

-- The index of a single-byte encoding, if its file was given.
abbrev pub single_of : IndexSet → Encoding → Option Index
single_of x e = at_place x.single (single_byte_place e)

-- The file was given.
abbrev pub is_set : Option Index → Bool
is_set None = false
is_set (Some index) = true

-- A file that wasn't given maps nothing.
abbrev pub pairs_of : Option Index → Index
pairs_of None = []
pairs_of (Some index) = index

-- The indexes of the set.
abbrev pub tables : IndexSet → Tables
tables x = record {
  jis0208 = pairs_of x.jis0208;
  jis0212 = pairs_of x.jis0212;
  katakana = pairs_of x.katakana;
  single = λ e. pairs_of (single_of x e);
}

-- The encodings on offer: UTF-8 and UTF-16 always, a single-byte encoding with its file, Shift_JIS with jis0208, EUC-JP
-- with jis0208 and jis0212, ISO-2022-JP with jis0208 and katakana.
abbrev pub offers : IndexSet → Encoding → Bool
offers x encodings.Utf8 = true
offers x encodings.Utf16Be = true
offers x encodings.Utf16Le = true
offers x encodings.ShiftJis = is_set x.jis0208
offers x encodings.EucJp = is_set x.jis0208 && is_set x.jis0212
offers x encodings.Iso2022Jp = is_set x.jis0208 && is_set x.katakana
offers x e = is_set (single_of x e)
