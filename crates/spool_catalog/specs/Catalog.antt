-- The catalog of a view: its records, in memory.
use Rattle.std.specs.Prelude.{◌≡◌, ℕ, [], Some, false, length, get_or, replicate}
use Rattle.common.specs.declared.limits.TheConstants.{SLOTS}
use Rattle.spool_texts.specs.TextOn.{IsListed}
use Rattle.upload_rules.specs.Room.{blocks_of}
use Rattle.spool_pages.specs.View.{SlotRecord, View, slot_at}
use Rattle.spool_catalog.specs.Holding.{Holding, Orders}

-- its fields are the view's, the slots in use are in the order of their numbers, and the blocks of each one's text are
-- listed
pub record HasView (h : Holding) (v : View) : Type 0 where
  pub blocks : h.layout ≡ v.blocks
  pub version : h.version ≡ v.version
  pub next : h.next ≡ v.next
  pub indexes : h.indexes ≡ v.indexes
  pub slots : h.slots ≡ v.slots
  pub rows : h.blocks.rows ≡ v.rows
  pub ordered : Orders v.slots h.order SLOTS
  pub listed : (s : ℕ) (r : SlotRecord) → slot_at v s ≡ Some r → IsListed v.rows s (get_or h.lists s [])
  pub sizes : (s : ℕ) (r : SlotRecord) → slot_at v s ≡ Some r → length (get_or h.lists s []) ≡ blocks_of r.text_len

-- and no block is reserved
abbrev pub HasViewAlone : Holding → View → Type 0
HasViewAlone h v = HasView h v × (h.blocks.reserved ≡ replicate v.blocks false)
