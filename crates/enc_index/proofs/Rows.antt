-- The definitions at worked examples.
use Rattle.std.proofs.Common.{◌≡◌, ℕ, List, [], ◌∷◌, ◌++◌, map, Some, Ok, Err, refl, codes}
use Rattle.enc_model.specs.Index.{code, pointer, pointer_where}
use Rattle.enc_index.specs.declared.kind.Kind.TheVariants.{Jis0208, Katakana}
use Rattle.enc_index.specs.declared.kind.ReadError.TheVariants.{Line, Range, Twice}
use Rattle.enc_model.specs.Indexes.{IndexSet, no_indexes}
use Rattle.enc_index.specs.Area.{area_byte, entry_at}
use Rattle.enc_index.specs.Files.{rest_if_any, pieces, without_crs, number_onward, without_spaces, pair_of, inserted}
use Rattle.enc_index.specs.Files.{with_line, with_lines, pairs_of_file}

-- a line of two fields, with its LF
line : List ℕ → List ℕ → List ℕ
line pointer point = pointer ++ 0x09 ∷ point ++ 0x0A ∷ []

small : List ℕ
small = codes "# test" ++ 0x0A ∷ 0x0A ∷ [] ++ line (codes "  0") (codes "0x3000") ++ line (codes "60")
    (codes "FF0D") ++ line (codes "61") (codes "FF0D")

accepted : pairs_of_file Jis0208 small ≡ Ok ((0, 0x3000) ∷ (60, 0xFF0D) ∷ (61, 0xFF0D) ∷ [])
unfolding line small rest_if_any pieces without_crs number_onward without_spaces pair_of code inserted with_line
    with_lines
    pairs_of_file
accepted = refl

least : pointer ((0, 0x3000) ∷ (60, 0xFF0D) ∷ (61, 0xFF0D) ∷ []) 0xFF0D ≡ Some 60
unfolding pointer_where
least = refl

-- Refused are a pointer that was there, one out of range, a surrogate, a code point that is too great, a line without a
-- tab, seven digits, and none.
refused : (pairs_of_file Jis0208 (small ++ line (codes "60") (codes "3001")) ≡ Err (Twice 6))
    × (pairs_of_file Jis0208 (line (codes "11280") (codes "3001")) ≡ Err (Range 1))
    × (pairs_of_file Jis0208 (line (codes "0") (codes "D800")) ≡ Err (Range 1))
    × (pairs_of_file Jis0208 (line (codes "0") (codes "110000")) ≡ Err (Range 1))
    × (pairs_of_file Jis0208 (codes "x") ≡ Err (Line 1))
    × (pairs_of_file Jis0208 (line (codes "0000001") (codes "3001")) ≡ Err (Line 1))
    × (pairs_of_file Jis0208 (line (codes "0") (codes "0x")) ≡ Err (Line 1))
unfolding line small rest_if_any pieces without_crs number_onward without_spaces pair_of code inserted with_line
    with_lines
    pairs_of_file
refused = (refl, refl, refl, refl, refl, refl, refl)

-- CR LF, pointers out of order, and a third field
crlf : pairs_of_file Katakana (codes "2" ++ 0x09 ∷ codes "30f2" ++ 0x09 ∷ codes "x" ++ 0x0D ∷ 0x0A ∷ 0x0D ∷ 0x0A ∷ codes
    "0" ++ 0x09 ∷ codes "3002" ++ 0x0D ∷ 0x0A ∷ []) ≡ Ok ((0, 0x3002) ∷ (2, 0x30F2) ∷ [])
unfolding line rest_if_any pieces without_crs number_onward without_spaces pair_of code inserted with_line with_lines
    pairs_of_file
crlf = refl

-- AREAS

one_file : IndexSet
one_file = record no_indexes { jis0208 = Some ((0, 0x3000) ∷ (60, 0xFF0D) ∷ []) }

bytes_at : List ℕ → List ℕ
bytes_at places = map (area_byte one_file) places

-- the flags, the first entry, one without a code point, that of pointer 60, and the last byte of the last table with
-- the zeros after it
bytes : (bytes_at (0 ∷ 1 ∷ 17 ∷ 31 ∷ []) ≡ 1 ∷ 0 ∷ 0 ∷ 0 ∷ [])
    × (bytes_at (32 ∷ 33 ∷ 34 ∷ 35 ∷ []) ≡ 0x00 ∷ 0x00 ∷ 0x30 ∷ 0x00 ∷ [])
    × (bytes_at (36 ∷ 37 ∷ 38 ∷ 39 ∷ []) ≡ 0xFF ∷ 0xFF ∷ 0xFF ∷ 0xFF ∷ [])
    × (bytes_at (272 ∷ 273 ∷ 274 ∷ 275 ∷ []) ≡ 0x00 ∷ 0x00 ∷ 0xFF ∷ 0x0D ∷ [])
    × (bytes_at (88427 ∷ 88428 ∷ 90111 ∷ []) ≡ 0xFF ∷ 0x00 ∷ 0x00 ∷ [])
unfolding bytes_at one_file area_byte entry_at code
bytes = (refl, refl, refl, refl, refl)
