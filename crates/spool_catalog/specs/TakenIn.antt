-- A new upload comes into the catalog.
use Rattle.std.specs.Prelude.{◌≡◌, ℕ, ◌^◌, ◌+◌, ◌<◌, ◌≤◌, false, [], None, Some, get_or, slice_set}
use Rattle.common.specs.declared.limits.TheConstants.{SLOTS}
use Rattle.enc_model.specs.Indexes.{IndexSet}
use Rattle.upload_rules.specs.Lengths.{is_too_large}
use Rattle.upload_rules.specs.Store.{New, new_upload}
use Rattle.spool_pages.specs.View.{SlotRecord}
use Rattle.spool_catalog.specs.Holding.{Holding, FitsTogether, IsAdded}
use Rattle.spool_catalog.specs.Shows.{IsValidRecord, IsRecordOf}

-- a free slot, and a next number that may be followed by another
pub record HasRoomAt (h : Holding) (slot : ℕ) : Type 0 where
  pub within : slot < SLOTS
  pub free : get_or h.slots slot None ≡ None
  pub next : h.next < 10 ^ 18

-- the record is in the slot, under the next number, and all fits together
pub record IsTakenIn (old : Holding) (slot : ℕ) (r : SlotRecord) (new : Holding) : Type 0 where
  pub layout : new.layout ≡ old.layout
  pub version : new.version ≡ old.version
  pub next : new.next ≡ old.next + 1
  pub indexes : new.indexes ≡ old.indexes
  pub slots : new.slots ≡ slice_set old.slots slot (Some r)
  pub order : IsAdded old.order old.next slot new.order
  pub lists : new.lists ≡ old.lists
  pub blocks : new.blocks ≡ old.blocks
  pub fits : FitsTogether new

-- the record of a new upload, whatever the index set
pub record IsNewRecord (number : ℕ) (new : New) (r : SlotRecord) : Type 0 where
  pub number_is : r.number ≡ number
  pub represents : (x : IndexSet) → IsRecordOf x r [] (new_upload new)
  pub no_text : r.text_len ≡ 0
  pub valid : 1 ≤ number → is_too_large new.declared ≡ false → IsValidRecord (number + 1) r
