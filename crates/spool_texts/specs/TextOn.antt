-- The text on a list of blocks.
use Rattle.std.specs.Prelude.{◌≡◌, ℕ, ◌+◌, ◌*◌, ◌<◌, ◌++◌, List, [], ◌∷◌, Option, None, Some, length, get_or, take}
use Rattle.spool_journal.specs.declared.TheConstants.{PAGE}
use Rattle.spool_disk.specs.Disk.{span}

-- The bytes of the listed blocks, joined. The text blocks begin at page `first`.
unfoldable pub blocks_on : (ℕ → ℕ) → ℕ → List ℕ → List ℕ
blocks_on current first [] = []
blocks_on current first (b ∷ list) = span current (PAGE * (first + b)) PAGE ++ blocks_on current first list

-- The text of this length on the listed blocks.
abbrev pub text_on : (ℕ → ℕ) → ℕ → List ℕ → ℕ → List ℕ
text_on current first list len = take len (blocks_on current first list)

-- These are the slot's blocks by ordinal, and the slot has no ordinal twice.
pub record IsListed (rows : List (Option (ℕ × ℕ))) (slot : ℕ) (list : List ℕ) : Type 0 where
  pub owned : (i : ℕ) → i < length list → get_or rows (get_or list i 0) None ≡ Some (slot, i)
  pub once : (a b i : ℕ) → get_or rows a None ≡ Some (slot, i) → get_or rows b None ≡ Some (slot, i) → a ≡ b

-- The numbers of the listed blocks are below `blocks`.
abbrev pub AllBelow : ℕ → List ℕ → Type 0
AllBelow blocks list = (i : ℕ) → i < length list → get_or list i 0 < blocks
