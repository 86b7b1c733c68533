-- What a change makes of the rows: another list of blocks for a slot, or none.
use Rattle.std.specs.Prelude.{◌≡◌, ◌≢◌, ℕ, ◌+◌, ◌<◌, ◌≤◌, List, None, length, get_or}
use Rattle.spool_blocks.specs.Blocks.{Row}
use Rattle.spool_blocks.specs.Chains.{Owns}

-- every other slot owns the same blocks, at the same ordinals
pub record SameOthers (slot : ℕ) (old new : List Row) : Type 0 where
  pub still : (b s i : ℕ) → s ≢ slot → Owns old b s i → Owns new b s i
  pub before : (b s i : ℕ) → s ≢ slot → Owns new b s i → Owns old b s i

-- the slot's blocks at ordinals from `first` on are nobody's, and the listed blocks are the slot's at the ordinals
-- `first`, `first + 1` and so on
pub record HandsOver (old : List Row) (slot first : ℕ) (list : List ℕ) (new : List Row) : Type 0 where
  pub size : length new ≡ length old
  pub listed : (i : ℕ) → i < length list → Owns new (get_or list i 0) slot (first + i)
  pub freed : (b k : ℕ) → ((i : ℕ) → i < length list → get_or list i 0 ≢ b) → first ≤ k → Owns old b slot k
      → get_or new b None ≡ None
  pub preserved : (b : ℕ) → ((i : ℕ) → i < length list → get_or list i 0 ≢ b)
      → ((k : ℕ) → first ≤ k → Owns old b slot k → ⊥)
      → get_or new b None ≡ get_or old b None

-- the slot's blocks are nobody's, and every other row is as it was
pub record FreesRows (slot : ℕ) (old new : List Row) : Type 0 where
  pub size : length new ≡ length old
  pub freed : (b k : ℕ) → Owns old b slot k → get_or new b None ≡ None
  pub preserved : (b : ℕ) → ((k : ℕ) → Owns old b slot k → ⊥) → get_or new b None ≡ get_or old b None
