-- The names of the index files: that of each index of the gateway, as the Encoding Standard names it (section 5).
use Rattle.std.specs.Prelude.{ℕ, zero, suc, ◌+◌, List, [], ◌∷◌, codes, Option, Some, None}
use Rattle.std.specs.Prelude.{Result, Ok, Err}
use Rattle.std.specs.Borrow.{Bor}
use Rattle.enc_model.specs.declared.Encoding.TheVariants as e
use Rattle.enc_model.specs.Index.{Index, code}
use Rattle.enc_model.specs.Indexes.{IndexSet, no_indexes}
use Rattle.enc_index.specs.Files.{pairs_of_file}
use Rattle.enc_index.specs.Kinds.{set_kind}
use Rattle.enc_index.specs.declared.kind.Kind.{Kind}
use Rattle.enc_index.specs.declared.kind.Kind.TheVariants.{Jis0208, Jis0212, Katakana, Single}
use Rattle.enc_index.specs.declared.kind.ReadError.{ReadError}
use Rattle.gateway_outside.specs.Files.{Files}

-- in the order of a spool's index area
unfoldable pub index_files : List (List ℕ × Kind)
index_files =
    (codes "index-jis0208.txt", Jis0208) ∷ (codes "index-jis0212.txt", Jis0212)
    ∷ (codes "index-iso-2022-jp-katakana.txt", Katakana) ∷ (codes "index-ibm866.txt", Single e.Ibm866)
    ∷ (codes "index-iso-8859-2.txt", Single e.Iso8859X2) ∷ (codes "index-iso-8859-5.txt", Single e.Iso8859X5)
    ∷ (codes "index-iso-8859-15.txt", Single e.Iso8859X15) ∷ (codes "index-koi8-r.txt", Single e.Koi8R)
    ∷ (codes "index-macintosh.txt", Single e.Macintosh) ∷ (codes "index-windows-1250.txt", Single e.Windows1250)
    ∷ (codes "index-windows-1251.txt", Single e.Windows1251) ∷ (codes "index-windows-1252.txt", Single e.Windows1252)
    ∷ (codes "index-windows-1253.txt", Single e.Windows1253) ∷ (codes "index-windows-1254.txt", Single e.Windows1254)
    ∷ (codes "index-windows-1255.txt", Single e.Windows1255) ∷ (codes "index-windows-1256.txt", Single e.Windows1256)
    ∷ (codes "index-windows-1257.txt", Single e.Windows1257) ∷ (codes "index-windows-1258.txt", Single e.Windows1258)
    ∷ []

-- a set with what a file of this content has as an index of this kind, where there is such a file
abbrev pub with_read : IndexSet → Kind → Result Index ReadError → IndexSet
with_read set kind (Ok index) = set_kind set kind index
with_read set kind (Err error) = set

abbrev pub with_file : IndexSet → Kind → Option (List ℕ) → IndexSet
with_file set kind None = set
with_file set kind (Some bytes) = with_read set kind (pairs_of_file kind bytes)

-- with what the files of these names have, each as an index of its kind
unfoldable pub read_as : List (List ℕ × Kind) → Files → IndexSet → IndexSet
read_as [] files set = set
read_as (row ∷ rows) files set = read_as rows files (with_file set row.1 (files row.0))

-- THE INDEXES OF A FOLDER, by its files
abbrev pub indexes_of : Files → IndexSet
indexes_of files = read_as index_files files no_indexes

-- a row of the code's table
abbrev pub named : Bor (List ℕ) × Kind → List ℕ × Kind
named row = (row.0.now, row.1)

-- how many entries the standard's index of a kind has
abbrev pub standard_entries : Kind → ℕ
standard_entries Jis0208 = 7724
standard_entries Jis0212 = 6067
standard_entries Katakana = 63
standard_entries (Single e.Windows1253) = 125
standard_entries (Single e.Windows1255) = 118
standard_entries (Single e.Windows1257) = 126
standard_entries (Single encoding) = 128

-- an entry, or none
abbrev pub one_of : Option ℕ → ℕ
one_of None = 0
one_of (Some c) = 1

-- how many of the pointers below n have an entry
unfoldable pub entries : Index → ℕ → ℕ
entries index zero = 0
entries index (suc n) = entries index n + one_of (code index n)
