-- How many entries an index has, pointer by pointer.
use Rattle.std.proofs.Common.{◌≡◌, ◌+◌, ℕ, add-one, refl}
use Rattle.enc_model.specs.Index.{Index, code}
use Rattle.gateway_indexes.specs.IndexFiles.{entries, one_of}

-- one pointer more of an index
pub entries_next : (index : Index) (n : ℕ) → entries index (n + 1) ≡ entries index n + one_of (code index n)
unfolding entries
entries_next index n =
    rw add-one refl

pub entries_none : (index : Index) → 0 ≡ entries index 0
unfolding entries
entries_none index = refl
