-- What a commit finds, and when its draft represents a patch.
use Rattle.std.specs.Prelude.{◌≡◌, ◌⊎◌, ◌≤◌, ◌<◌, ◌+◌, ◌^◌, ℕ, true, false, List, Option, None, Some, Result, Ok, Err}
use Rattle.std.specs.Prelude.{[], get_or}
use Rattle.std.specs.Prelude.{Bool}
use Rattle.spool_disk.specs.Disk.{IsImage, Preserves}
use Rattle.spool_disk.specs.Views.{Lasts}
use Rattle.spool_disk.specs.declared.disk.Disk.{Ghosts}
use Rattle.spool_drafts.specs.Drafts.{IsAfter, appended_count, declare_of, upload_number_of, offset_of}
use Rattle.spool_drafts.specs.declared.draft.SpoolDraft.{SpoolDraft}
use Rattle.spool_pages.specs.View.{SlotRecord}
use Rattle.upload_rules.specs.Calls.{length_refusal, text_stays, upload_refusal}
use Rattle.upload_rules.specs.Drafts.{draft_at}
use Rattle.upload_rules.specs.Lengths.{is_length, is_new, known_or, longest}
use Rattle.upload_rules.specs.States.{IsState}
use Rattle.upload_rules.specs.Store.{find, patched_store, upload_of}
use Rattle.upload_rules.specs.World.{Patch, World}
use Rattle.upload_rules.specs.declared.errors.UploadRefusal.{UploadRefusal}
use Rattle.upload_rules.specs.declared.errors.UploadRefusal.TheVariants.{Full, LengthSet, NoSuch, Offset, TooLong}
use Rattle.upload_rules.specs.declared.errors.UploadRefusal.TheVariants.{Unencodable}
use Rattle.spool_kept.specs.Drafting.{DraftsHold, IsStillOpen, StandsFor}
use Rattle.spool_catalog.specs.Holding.{Holding, IsUsedBy}
use Rattle.spool_kept.specs.declared.finding.Found.{Found}

-- the slot is in use by the draft's upload, which has as many bytes as when the draft began
pub record HasSameCount (slots : List (Option SlotRecord)) (o : SpoolDraft) (slot : ℕ) : Type 0 where
  pub used : SlotRecord
  pub there : get_or slots slot None ≡ Some used
  pub number : used.number ≡ upload_number_of o
  pub count : used.accepted ≡ offset_of o

-- a slot is in use by the draft's upload, and none has that count
pub record HasOtherCount (slots : List (Option SlotRecord)) (o : SpoolDraft) : Type 0 where
  pub slot : ℕ
  pub used : IsUsedBy slots slot (upload_number_of o)
  pub none : (s : ℕ) → HasSameCount slots o s → ⊥

-- the draft is after the text of the slot's upload
abbrev pub IsAfterSlot : List (Option SlotRecord) → ℕ → SpoolDraft → Type 0
IsAfterSlot slots slot o = (r : SlotRecord) → get_or slots slot None ≡ Some r → IsAfter r.text_len r.state o

-- a slot has that count, and the draft's length or its bytes don't go with its length
pub record HasOtherLength (slots : List (Option SlotRecord)) (o : SpoolDraft) (e : UploadRefusal) : Type 0 where
  pub slot : ℕ
  pub same : HasSameCount slots o slot
  pub refused : length_refusal same.used.declared (declare_of o) (offset_of o + appended_count o) ≡ Some e

-- The draft's upload is in the slot, with that count, and goes with the draft's length and bytes. The text stays where
-- no bytes came and no length makes the accepted ones all.
pub record IsFound (slots : List (Option SlotRecord)) (o : SpoolDraft) (found : Found) : Type 0 where
  pub same : HasSameCount slots o found.slot
  pub state : IsState same.used.state
  pub allowed : length_refusal same.used.declared (declare_of o) (offset_of o + appended_count o) ≡ None
  pub declares : found.declares ≡ is_new same.used.declared (declare_of o)
  pub declared : found.declared ≡ known_or same.used.declared (declare_of o)
  pub within : offset_of o + appended_count o ≤ longest found.declared
  pub fits : longest found.declared < 2 ^ 64
  pub stays : found.stays ≡ true
      → (appended_count o ≡ 0) × (found.declares ≡ true → is_length found.declared (offset_of o) ≡ false)
  pub goes : found.stays ≡ false
      → (0 < appended_count o) ⊎ ((found.declares ≡ true) × (is_length found.declared (offset_of o) ≡ true))

-- the draft's upload, if the draft may be committed
abbrev pub Finds : List (Option SlotRecord) → SpoolDraft → Result Found UploadRefusal → Type 0
Finds slots o (Ok found) = IsFound slots o found
Finds slots o (Err NoSuch) = (slot : ℕ) → IsUsedBy slots slot (upload_number_of o) → ⊥
Finds slots o (Err Offset) = HasOtherCount slots o
Finds slots o (Err LengthSet) = HasOtherLength slots o LengthSet
Finds slots o (Err TooLong) = HasOtherLength slots o TooLong
Finds slots o (Err e) = ⊥

-- the slot's upload has no length; it may have this one, and isn't complete with it
pub record MayDeclare (slots : List (Option SlotRecord)) (slot : ℕ) (declared : Option ℕ) : Type 0 where
  pub used : SlotRecord
  pub there : get_or slots slot None ≡ Some used
  pub unknown : used.declared ≡ None
  pub within : used.accepted ≤ longest declared
  pub incomplete : is_length declared used.accepted ≡ false

-- the world where the upload of a number has this length
abbrev pub with_length_at : World → ℕ → Option ℕ → World
with_length_at w n declared = record w { store = patched_store w.store n declared [] }

-- The draft of a number represents a patch that goes with its upload, and changes the text.
pub record IsCommit {D : Type 0} (sure : Bool) (disk : Ghosts D) (d : D) (h : Holding)
    (drafts : List (Option SpoolDraft)) (number : ℕ) (o : SpoolDraft) (w : World) (p : Patch) : Type 0 where
  pub represents : StandsFor sure disk d h drafts w
  pub fits : DraftsHold h.layout h.blocks drafts
  pub here : draft_at drafts number ≡ Some o
  pub patch : find number w.patches ≡ Some p
  pub still : IsStillOpen w.store p
  pub allowed : upload_refusal p (upload_of w.store p.number) ≡ None
  pub changes : text_stays w.store p ≡ false

-- the disk is as a call that only reads leaves it
pub record PreservesDisk {D : Type 0} (disk : Ghosts D) (old new : D) : Type 0 where
  pub preserves : Preserves (disk.current old) (disk.current new) (disk.unsynced old) (disk.unsynced new)
  pub lasts : Lasts disk old new (IsImage (disk.current old) (disk.unsynced old))

-- why a draft's end is refused: a character is unmappable, the upload was complete, or no block is free
abbrev pub IsEndRefusal : UploadRefusal → Type 0
IsEndRefusal e = ((e ≡ Unencodable) ⊎ (e ≡ TooLong)) ⊎ (e ≡ Full)
