-- Reading a piece of a text.
use Rattle.std.specs.Prelude.{◌≡◌, ℕ, ◌+◌, ◌*◌, ◌/◌, ◌%◌, ◌<◌, ◌≤◌, List, length, get_or}
use Rattle.spool_journal.specs.declared.TheConstants.{PAGE}
pub use Rattle.common.specs.Reading.{IsRead}

-- Byte `at` of the listed blocks.
abbrev pub byte_on : (ℕ → ℕ) → ℕ → List ℕ → ℕ → ℕ
byte_on current first list at = current (PAGE * (first + get_or list (at / PAGE) 0) + at % PAGE)

-- The first n bytes are those of the listed blocks from `at` on. The rest of the buffer is unchanged.
pub record IsPiece (current : ℕ → ℕ) (first : ℕ) (list : List ℕ) (at n : ℕ) (old new : List ℕ) : Type 0 where
  pub size : length new ≡ length old
  pub bytes : (k : ℕ) → k < n → get_or new k 0 ≡ byte_on current first list (at + k)
  pub rest : (k : ℕ) → n ≤ k → get_or new k 0 ≡ get_or old k 0

-- This many of the listed blocks, from this index on, are adjacent.
abbrev pub Follow : List ℕ → ℕ → ℕ → Type 0
Follow list at count = (i : ℕ) → i < count → get_or list (at + i) 0 ≡ get_or list at 0 + i
