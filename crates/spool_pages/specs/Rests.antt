-- Spools at rest: every crash image has the same view.
use Rattle.std.specs.Prelude.{◌≡◌, ℕ, ◌+◌, ◌/◌, ◌<◌, List, None, Some, length, get_or}
use Rattle.spool_journal.specs.declared.TheConstants.{PAGE}
use Rattle.spool_blocks.specs.Blocks.{Row}
use Rattle.spool_texts.specs.Texts.{text_shown}
use Rattle.spool_journal.specs.Image.{text_page}
use Rattle.spool_pages.specs.View.{SlotRecord, View, slot_at, IsViewOf}

-- The place is in a text block that no row owns.
pub record OnFree (v : View) (p : ℕ) : Type 0 where
  pub block : ℕ
  pub here : text_page v.blocks + block ≡ p / PAGE
  pub free : get_or v.rows block None ≡ None

-- The spool is at rest: the gate is closed, and only blocks that no row owns may be unsynced.
pub record Rests (v : View) (current : ℕ → ℕ) (unsynced : ℕ → Type 0) : Type 0 where
  pub closed : current PAGE ≡ 165 → ⊥
  pub is_synced : (p : ℕ) → unsynced p → OnFree v p
  pub is : IsViewOf current v

-- No row owns one of these blocks.
abbrev pub Unowned : List Row → List ℕ → Type 0
Unowned rows blocks = (i : ℕ) → i < length blocks → get_or rows (get_or blocks i 0) None ≡ None

-- The view's texts are those on the blocks of its rows.
abbrev pub HasTexts : (ℕ → ℕ) → View → Type 0
HasTexts current v = (s : ℕ) (r : SlotRecord) → slot_at v s ≡ Some r
    → v.texts s ≡ text_shown current (text_page v.blocks)
    v.rows s r.text_len
