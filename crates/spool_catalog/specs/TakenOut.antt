-- An upload goes out of the catalog.
use Rattle.std.specs.Prelude.{◌≡◌, ◌≢◌, ℕ, List, None, slice_set}
use Rattle.spool_catalog.specs.Holding.{Holding, IsListedAt, Rises}
use Rattle.spool_catalog.specs.Rows.{FreesRows}
use Rattle.spool_catalog.specs.declared.order.NumberedSlot.{NumberedSlot}

-- the number isn't listed, and each other number is with its slot
pub record IsWithout (old : List NumberedSlot) (number : ℕ) (new : List NumberedSlot) : Type 0 where
  pub rises : Rises new
  pub preserved : (n s : ℕ) → n ≢ number → IsListedAt old n s → IsListedAt new n s
  pub only : (n s : ℕ) → IsListedAt new n s → (n ≢ number) × IsListedAt old n s

-- the slot is free, and so are its blocks; nothing else is another
pub record IsTakenOut (old : Holding) (slot : ℕ) (new : Holding) : Type 0 where
  pub layout : new.layout ≡ old.layout
  pub version : new.version ≡ old.version
  pub next : new.next ≡ old.next
  pub indexes : new.indexes ≡ old.indexes
  pub slots : new.slots ≡ slice_set old.slots slot None
  pub rows : FreesRows slot old.blocks.rows new.blocks.rows
  pub reserved : new.blocks.reserved ≡ old.blocks.reserved
