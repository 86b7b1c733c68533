-- What a new upload and an append make of a view, and which slot an upload has.
use Rattle.std.specs.Prelude.{◌≡◌, ℕ, suc, ◌+◌, ◌==◌, if◌then◌else◌, List, [], ◌∷◌, Option, None, Some}
use Rattle.std.specs.Prelude.{length}
use Rattle.enc_model.specs.Indexes.{IndexSet}
use Rattle.upload_rules.specs.Store.{Upload, text_of}
use Rattle.upload_rules.specs.Room.{blocks_of}
use Rattle.spool_blocks.specs.Blocks.{Row}
use Rattle.spool_blocks.specs.Chains.{OwnsOneEach}
use Rattle.spool_pages.specs.View.{SlotRecord, View, slot_at}
use Rattle.spool_pages.specs.Changes.{with_record}
use Rattle.spool_catalog.specs.Shows.{IsRecordOf}

-- another text for a slot
abbrev pub texts_with : View → ℕ → List ℕ → ℕ → List ℕ
texts_with v slot text s = if s == slot then text else v.texts s

-- `create`: a record without text in a slot, and the next number
abbrev pub created_view : View → ℕ → SlotRecord → View
created_view v slot r = record (with_record v slot r) { next = v.next + 1; texts = texts_with v slot [] }

-- `append`: another record in a slot, and its text on other rows
abbrev pub appended_view : View → ℕ → SlotRecord → List Row → List ℕ → View
appended_view v slot r rows text = record (with_record v slot r) { rows = rows; texts = texts_with v slot text }

-- the first slot with a record of this number
unfoldable pub slot_of : ℕ → List (Option SlotRecord) → ℕ
slot_of n [] = 0
slot_of n (None ∷ slots) = suc (slot_of n slots)
slot_of n (Some r ∷ slots) = if r.number == n then 0 else suc (slot_of n slots)

-- that slot represents the upload, and owns the blocks of its text
pub record HasUpload (v : View) (x : IndexSet) (n : ℕ) (u : Upload) : Type 0 where
  pub used : SlotRecord
  pub there : slot_at v (slot_of n v.slots) ≡ Some used
  pub number : used.number ≡ n
  pub represents : IsRecordOf x used (v.texts (slot_of n v.slots)) u
  pub blocks : OwnsOneEach v.rows (slot_of n v.slots) (blocks_of (length (text_of x u)))
