-- An upload of the catalog gets longer, or its length.
use Rattle.std.specs.Prelude.{◌≡◌, ◌≢◌, ℕ, ◌+◌, ◌/◌, ◌<◌, List, Some, None, Bool, false, length, get_or, slice_set}
use Rattle.spool_journal.specs.declared.TheConstants.{PAGE}
use Rattle.upload_rules.specs.Room.{blocks_of}
use Rattle.upload_rules.specs.States.{SameEncodings}
use Rattle.spool_pages.specs.View.{SlotRecord}
use Rattle.spool_catalog.specs.Holding.{Holding}
use Rattle.spool_catalog.specs.Rows.{HandsOver}
use Rattle.spool_catalog.specs.declared.longer.Longer.{Longer}

-- the record with the new length, counts and state
abbrev pub longer_record : SlotRecord → Longer → SlotRecord
longer_record r longer = record r {
  declared = longer.declared;
  accepted = longer.accepted;
  text_len = longer.text_len;
  state = longer.state;
}

-- the slot's upload may become this with these blocks, or with none where its text stays
pub record MayExtend (h : Holding) (longer : Longer) (more : List ℕ) : Type 0 where
  pub used : SlotRecord
  pub there : get_or h.slots longer.slot None ≡ Some used
  pub state : SameEncodings used.state longer.state
  pub same : length more ≡ 0 → longer.text_len ≡ used.text_len
  pub blocks : 0 < length more → blocks_of longer.text_len ≡ used.text_len / PAGE + length more

-- the listed blocks are reserved no more; the others are as they were
pub record HandsOn (old new : List Bool) (list : List ℕ) : Type 0 where
  pub handed : (i : ℕ) → i < length list → get_or new (get_or list i 0) false ≡ false
  pub others : (b : ℕ) → ((i : ℕ) → i < length list → get_or list i 0 ≢ b) → get_or new b false ≡ get_or old b false

-- the catalog has the longer upload, of which `used` was the record
pub record HasLonger (h : Holding) (used : SlotRecord) (longer : Longer) (more : List ℕ) (new : Holding) : Type 0 where
  pub layout : new.layout ≡ h.layout
  pub version : new.version ≡ h.version
  pub next : new.next ≡ h.next
  pub indexes : new.indexes ≡ h.indexes
  pub slots : new.slots ≡ slice_set h.slots longer.slot (Some (longer_record used longer))
  pub same : length more ≡ 0 → new.blocks ≡ h.blocks
  pub rows : 0 < length more → HandsOver h.blocks.rows longer.slot (used.text_len / PAGE) more new.blocks.rows
