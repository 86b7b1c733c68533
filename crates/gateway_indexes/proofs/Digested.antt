-- The entries of an index as bytes, pointer by pointer.
use Rattle.std.proofs.Common.{◌≡◌, ◌+◌, ◌++◌, ℕ, [], add-one, refl}
use Rattle.enc_model.specs.Index.{Index, code}
use Rattle.gateway_indexes.specs.Digests.{bytes_at, entry_bytes}

-- one pointer more of an index
pub bytes_next : (index : Index) (n : ℕ) → entry_bytes index n ++ bytes_at n (code index n) ≡ entry_bytes index (n + 1)
unfolding entry_bytes
bytes_next index n = rw add-one refl

pub bytes_none : (index : Index) → [] ≡ entry_bytes index 0
unfolding entry_bytes
bytes_none index = refl
