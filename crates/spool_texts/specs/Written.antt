-- The effect of writes to listed blocks. The text blocks begin at page `first`.
use Rattle.std.specs.Prelude.{◌≡◌, ◌≢◌, ◌⊎◌, ℕ, ◌+◌, ◌/◌, ◌<◌, List, [], ◌∷◌, Option, None, length, get_or}
use Rattle.spool_journal.specs.declared.TheConstants.{PAGE}
use Rattle.spool_journal.specs.Image.{InForm, count, journal_number, overlaid}
use Rattle.spool_texts.specs.Texts.{text_shown, aside}

-- The place is in one of these blocks.
pub record InBlocks (first : ℕ) (blocks : List ℕ) (p : ℕ) : Type 0 where
  pub at : ℕ
  pub below : at < length blocks
  pub here : first + get_or blocks at 0 ≡ p / PAGE

-- The two images agree outside these blocks.
abbrev pub SameOutside : ℕ → List ℕ → (ℕ → ℕ) → (ℕ → ℕ) → Type 0
SameOutside first blocks a b = (p : ℕ) → (InBlocks first blocks p → ⊥) → b p ≡ a p

-- No listed block is one of these.
abbrev pub NoneOf : List ℕ → List ℕ → Type 0
NoneOf list blocks = (i k : ℕ) → i < length list → k < length blocks → get_or list i 0 ≢ get_or blocks k 0

-- Nothing changes outside these blocks, and only places in them become unsynced.
pub record WritesIn (first : ℕ) (blocks : List ℕ) (current current' : ℕ → ℕ) (unsynced unsynced' : ℕ
    → Type 0) : Type 0 where
  pub outside : SameOutside first blocks current current'
  pub unsyncs : (p : ℕ) → unsynced' p → unsynced p ⊎ InBlocks first blocks p

-- Apart from these blocks, the image is a crash image.
pub record IsImageBut (first : ℕ) (blocks : List ℕ) (current : ℕ → ℕ) (unsynced : ℕ → Type 0) (image : ℕ
    → ℕ) : Type 0 where
  pub same : (p : ℕ) → (InBlocks first blocks p → ⊥) → (unsynced p → ⊥) → image p ≡ current p

-- The image with these blocks set back.
unfoldable pub aside_blocks : ℕ → List ℕ → (ℕ → ℕ) → (ℕ → ℕ) → ℕ → ℕ
aside_blocks first [] was image = image
aside_blocks first (b ∷ blocks) was image = aside (first + b) was (aside_blocks first blocks was image)

-- Blocks that no row owns are part of no text, and nothing outside the blocks reads differently.
pub record FrameBlocks (j first : ℕ) (blocks : List ℕ) (a b : ℕ → ℕ) : Type 0 where
  pub texts : (rows : List (Option (ℕ × ℕ))) (slot len : ℕ)
      → ((i : ℕ) → i < length blocks → get_or rows (get_or blocks i 0) None ≡ None)
      → text_shown a first rows slot len ≡ text_shown b first rows slot len
  pub form : (b PAGE ≡ 165 → InForm j (count b) (journal_number b)) → a PAGE ≡ 165
      → InForm j (count a) (journal_number a)
  pub others : (b PAGE ≡ 165 → InForm j (count b) (journal_number b)) → (p : ℕ) → (InBlocks first blocks p → ⊥)
      → overlaid a p ≡ overlaid b p
