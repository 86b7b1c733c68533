-- An index as a table: each pointer has a code point or none.
use Rattle.std.specs.Prelude.{◌≡◌, ℕ, suc, Bool, true, ◌&&◌, ◌==◌, List, [], ◌∷◌, Option, Some, None, IfSome, length}
use Rattle.std.specs.Prelude.{slice_index, slice_index_or, ◌<◌, nat_le, nat_lt, if◌then◌else◌}
use Rattle.enc_model.specs.Index.{Index, pointer, pointer_where, pointer_sjis}
use Rattle.enc_index.specs.Bytes.{byte_char}
use Rattle.enc_index.specs.Scalars.{is_scalar}

-- The pairs of these entries, whose first pointer is p.
unfoldable pub pairs_from : ℕ → List (Option ℕ) → Index
pairs_from p [] = []
pairs_from p (None ∷ entries) = pairs_from (suc p) entries
pairs_from p (Some c ∷ entries) = (p, c) ∷ pairs_from (suc p) entries

-- The pointer of a code point; FFFF for none.
abbrev pub entry : ℕ → Option ℕ
entry p = if p == 0xFFFF then None else Some p

-- The pointer of a code point in such a table; none after the table's end.
abbrev pub found_pointer : List ℕ → ℕ → Option ℕ
found_pointer pointers c = entry (slice_index_or pointers c 0xFFFF)

-- The table gives each code point's least pointer among those that pass the test.
abbrev pub GivesLeast : (ℕ → Bool) → List (Option ℕ) → List ℕ → Type 0
GivesLeast includes entries pointers =
    (c : ℕ) → found_pointer pointers c ≡ pointer_where includes (pairs_from 0 entries) c

-- The other tables agree with the entries.
pub record AreAgreed (entries in_utf8 : List (Option ℕ)) (bytes_in_utf8 pointers sjis_pointers : List ℕ) : Type 0 where
  pub ready : in_utf8 ≡ entries
  pub bytes : length bytes_in_utf8 ≡ 256
  pub chars : (b : ℕ) → b < 256 → slice_index bytes_in_utf8 b ≡ byte_char (pairs_from 0 entries) b
  pub least : (c : ℕ) → found_pointer pointers c ≡ pointer (pairs_from 0 entries) c
  pub least_sjis : (c : ℕ) → found_pointer sjis_pointers c ≡ pointer_sjis (pairs_from 0 entries) c

-- Each entry is none or a scalar value.
abbrev pub AreScalarEntries : List (Option ℕ) → Type 0
AreScalarEntries entries = (k : ℕ) → IfSome (slice_index_or entries k None) (λ c. is_scalar c ≡ true)

-- The pointers ascend from `low` and stay below `bound`, and the code points are scalar values.
unfoldable pub ascends : ℕ → ℕ → Index → Bool
ascends low bound [] = true
ascends low bound (pair ∷ index) =
    nat_le low pair.0 && nat_lt pair.0 bound && is_scalar pair.1 && ascends (suc pair.0) bound index
