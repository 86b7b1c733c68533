-- The digests of indexes: by them the standard's are told from others.
use Rattle.std.specs.Prelude.{ℕ, zero, suc, Bool, true, false, List, [], ◌++◌, Option, Some, None, bytes_eq}
use Rattle.std.specs.Prelude.{if◌then◌else◌, Result, Ok, Err}
use Rattle.std.specs.Int.{w32, to_be_bytes}
use Rattle.sha2.specs.Sha256.{sha256}
use Rattle.enc_model.specs.declared.Encoding.{Encoding}
use Rattle.enc_model.specs.declared.Encoding.TheVariants as e
use Rattle.enc_model.specs.Index.{Index, code}
use Rattle.enc_index.specs.declared.kind.Kind.{Kind}
use Rattle.enc_index.specs.declared.kind.Kind.TheVariants.{Jis0208, Jis0212, Katakana, Single}
use Rattle.enc_index.specs.declared.kind.ReadError.{ReadError}
use Rattle.enc_index.specs.Files.{pairs_of_file}
use Rattle.gateway_indexes.specs.IndexFiles.{entries}
use Rattle.gateway_indexes.specs.declared.digests.TheConstants as digests
use Rattle.gateway_indexes.specs.declared.found.Found.{Found}
use Rattle.gateway_indexes.specs.declared.found.Found.TheVariants.{Missing, Standard, Other}

-- what a pointer and its code point add to the message, four bytes each, high byte first
abbrev pub bytes_at : ℕ → Option ℕ → List ℕ
bytes_at pointer None = []
bytes_at pointer (Some c) = to_be_bytes w32 pointer ++ to_be_bytes w32 c

-- THE ENTRIES OF AN INDEX as bytes: those of the pointers below n, in their order
unfoldable pub entry_bytes : Index → ℕ → List ℕ
entry_bytes index zero = []
entry_bytes index (suc n) = entry_bytes index n ++ bytes_at n (code index n)

-- the digest of the standard's index of a kind
unfoldable pub single_digest : Encoding → List ℕ
single_digest e.Ibm866 = digests.IBM866_DIGEST
single_digest e.Iso8859X2 = digests.ISO_8859_2_DIGEST
single_digest e.Iso8859X5 = digests.ISO_8859_5_DIGEST
single_digest e.Iso8859X15 = digests.ISO_8859_15_DIGEST
single_digest e.Koi8R = digests.KOI8_R_DIGEST
single_digest e.Macintosh = digests.MACINTOSH_DIGEST
single_digest e.Windows1250 = digests.WINDOWS_1250_DIGEST
single_digest e.Windows1251 = digests.WINDOWS_1251_DIGEST
single_digest e.Windows1252 = digests.WINDOWS_1252_DIGEST
single_digest e.Windows1253 = digests.WINDOWS_1253_DIGEST
single_digest e.Windows1254 = digests.WINDOWS_1254_DIGEST
single_digest e.Windows1255 = digests.WINDOWS_1255_DIGEST
single_digest e.Windows1256 = digests.WINDOWS_1256_DIGEST
single_digest e.Windows1257 = digests.WINDOWS_1257_DIGEST
single_digest e.Windows1258 = digests.WINDOWS_1258_DIGEST
single_digest encoding = digests.NO_DIGEST

unfoldable pub standard_digest : Kind → List ℕ
standard_digest Jis0208 = digests.JIS0208_DIGEST
standard_digest Jis0212 = digests.JIS0212_DIGEST
standard_digest Katakana = digests.KATAKANA_DIGEST
standard_digest (Single encoding) = single_digest encoding

-- AN INDEX IS THE STANDARD'S: its entries have the digest of those of the standard's index of its kind
abbrev pub is_standard : Kind → Index → Bool
is_standard kind index = bytes_eq (sha256 (entry_bytes index 11280)) (standard_digest kind)

-- WHAT IS FOUND of an index of a kind: the standard's, or another one with so many entries
abbrev pub found_as : Kind → Index → Found
found_as kind index = if is_standard kind index then Standard else Other (entries index 11280)

-- by the content of its file, where there is one that can be read
abbrev pub found_read : Kind → Result Index ReadError → Found
found_read kind (Ok index) = found_as kind index
found_read kind (Err error) = Missing

abbrev pub found_in : Kind → Option (List ℕ) → Found
found_in kind None = Missing
found_in kind (Some bytes) = found_read kind (pairs_of_file kind bytes)

-- something was found
abbrev pub is_there : Found → Bool
is_there Missing = false
is_there Standard = true
is_there (Other count) = true

-- the standard's was found
abbrev pub is_as_standard : Found → Bool
is_as_standard Missing = false
is_as_standard Standard = true
is_as_standard (Other count) = false
