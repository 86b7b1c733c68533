-- The texts in an image.
use Rattle.std.specs.Prelude.{◌≡◌, ℕ, zero, suc, ◌+◌, ◌*◌, ◌/◌, ◌==◌, ◌&&◌, ◌++◌, if◌then◌else◌, List, [], ◌∷◌, Bool}
use Rattle.std.specs.Prelude.{false, Option, None, Some, get_or, take}
use Rattle.spool_journal.specs.declared.TheConstants.{PAGE}
use Rattle.spool_disk.specs.Disk.{span}
use Rattle.spool_journal.specs.Image.{InForm, count, journal_number, overlaid}

-- By its row, the slot owns the block at this ordinal.
unfoldable pub owns : ℕ → ℕ → Option (ℕ × ℕ) → Bool
owns slot ordinal None = false
owns slot ordinal (Some (s, o)) = (s == slot) && (o == ordinal)

-- The first block from b on that the slot owns at this ordinal.
unfoldable pub block_at : ℕ → ℕ → List (Option (ℕ × ℕ)) → ℕ → Option ℕ
block_at slot ordinal [] b = None
block_at slot ordinal (row ∷ rows) b = if owns slot ordinal row then Some b else block_at slot ordinal rows (b + 1)

-- The block's bytes. The text blocks begin at page `first`.
unfoldable pub block_bytes : (ℕ → ℕ) → ℕ → Option ℕ → List ℕ
block_bytes image first None = []
block_bytes image first (Some b) = span image (PAGE * (first + b)) PAGE

-- The slot's next n blocks, joined by ordinal.
unfoldable pub joined_blocks : (ℕ → ℕ) → ℕ → List (Option (ℕ × ℕ)) → ℕ → ℕ → ℕ → List ℕ
joined_blocks image first rows slot ordinal zero = []
joined_blocks image first rows slot ordinal (suc n) =
    block_bytes image first (block_at slot ordinal rows 0) ++ joined_blocks image first rows slot (ordinal + 1) n

-- The slot's text of this length.
abbrev pub text_shown : (ℕ → ℕ) → ℕ → List (Option (ℕ × ℕ)) → ℕ → ℕ → List ℕ
text_shown image first rows slot len = take len (joined_blocks image first rows slot 0 ((len + 4095) / PAGE))

-- The image with one page as it was.
abbrev pub aside : ℕ → (ℕ → ℕ) → (ℕ → ℕ) → ℕ → ℕ
aside page was image p = if page == p / PAGE then was p else image p

-- The two images agree outside the page.
abbrev pub SameBut : ℕ → (ℕ → ℕ) → (ℕ → ℕ) → Type 0
SameBut page a b = (p : ℕ) → (page ≡ p / PAGE → ⊥) → a p ≡ b p

-- A page of text that no row owns is part of no text, and no page of text affects what is read elsewhere.
pub record Frame (j first block : ℕ) (a b : ℕ → ℕ) : Type 0 where
  pub texts : (rows : List (Option (ℕ × ℕ))) (slot len : ℕ) → get_or rows block None ≡ None
      → text_shown a first rows slot len ≡ text_shown b first rows slot len
  pub form : (b PAGE ≡ 165 → InForm j (count b) (journal_number b)) → a PAGE ≡ 165
      → InForm j (count a) (journal_number a)
  pub others : (b PAGE ≡ 165 → InForm j (count b) (journal_number b)) → (p : ℕ) → (first + block ≡ p / PAGE → ⊥)
      → overlaid a p ≡ overlaid b p
