-- The open drafts on a disk by their numbers, and the patches that they represent.
use Rattle.std.specs.Prelude.{◌≡◌, ◌≢◌, ◌<◌, ◌≤◌, ℕ, List, [], Option, None, Some, true, false, Result, Ok}
use Rattle.std.specs.Prelude.{Err, length, get_or}
use Rattle.std.specs.Prelude.{Bool}
use Rattle.enc_model.specs.Indexes.{IndexSet}
use Rattle.spool_blocks.specs.Blocks.{Row, Held}
use Rattle.spool_disk.specs.declared.disk.Disk.{Ghosts}
use Rattle.spool_journal.specs.Image.{text_page}
use Rattle.spool_texts.specs.Drafts.{IsReserved}
use Rattle.spool_texts.specs.Written.{NoneOf}
use Rattle.spool_room.specs.Holdings.{IsInSome}
use Rattle.spool_drafts.specs.Drafts.{Holds, Carries, IsBegun, IsAfter, IsTailPlaced, list_of, upload_number_of}
use Rattle.spool_drafts.specs.Drafts.{offset_of}
use Rattle.spool_drafts.specs.Drafts.{tail_of}
use Rattle.spool_drafts.specs.declared.draft.SpoolDraft.{SpoolDraft}
use Rattle.upload_rules.specs.Apart.{IsApart}
use Rattle.upload_rules.specs.Calls.{first_patch}
use Rattle.upload_rules.specs.Drafts.{DraftOf, draft_at}
use Rattle.upload_rules.specs.Grown.{IsGrown}
use Rattle.upload_rules.specs.Lengths.{is_length}
use Rattle.upload_rules.specs.Store.{Upload, Store, find, is_complete, upload_of, with_length}
use Rattle.upload_rules.specs.World.{Patch, World}
use Rattle.upload_rules.specs.declared.errors.UploadRefusal.{UploadRefusal}
use Rattle.upload_rules.specs.declared.errors.UploadRefusal.TheVariants.{NoSuch}
use Rattle.spool_pages.specs.View.{SlotRecord}
use Rattle.spool_catalog.specs.Holding.{Holding, IsOwnedBy}
use Rattle.spool_kept.specs.Stored.{Stored}

-- WHAT HOLDS ALWAYS

abbrev pub list_in : Option SpoolDraft → List ℕ
list_in None = []
list_in (Some o) = list_of o

-- the reserved blocks of each draft number, none where there is no draft
abbrev pub lists_at : List (Option SpoolDraft) → ℕ → List ℕ
lists_at drafts d = list_in (draft_at drafts d)

-- each draft's blocks are reserved, and no other draft's; there are so many blocks
pub record DraftsHold (n : ℕ) (h : Held) (drafts : List (Option SpoolDraft)) : Type 0 where
  pub reserved : (d : ℕ) → IsReserved h (lists_at drafts d)
  pub placed : (d : ℕ) (o : SpoolDraft) → draft_at drafts d ≡ Some o → IsTailPlaced n o
  pub distinct : (d e : ℕ) → d ≢ e → NoneOf (lists_at drafts d) (lists_at drafts e)

-- Where the draft's upload is in a slot, it has as many bytes as when the draft began, or more. With as many, and while
-- it isn't complete, the draft is after its text.
pub record IsOfUpload (slots : List (Option SlotRecord)) (o : SpoolDraft) : Type 0 where
  pub grown : (s : ℕ) (r : SlotRecord) → get_or slots s None ≡ Some r → r.number ≡ upload_number_of o
      → offset_of o ≤ r.accepted
  pub after : (s : ℕ) (r : SlotRecord) → get_or slots s None ≡ Some r → r.number ≡ upload_number_of o
      → r.accepted ≡ offset_of o → is_length r.declared r.accepted ≡ false → IsAfter r.text_len r.state o

-- it is so with each open draft
abbrev pub EachDraft : (SpoolDraft → Type 0) → List (Option SpoolDraft) → Type 0
EachDraft P drafts = (d : ℕ) (o : SpoolDraft) → draft_at drafts d ≡ Some o → P o

-- The drafts fit the catalog, whatever the disk gave. An upload may be gone while its drafts are open; its number is
-- not given again.
pub record DraftsFit (h : Holding) (drafts : List (Option SpoolDraft)) : Type 0 where
  pub blocks : DraftsHold h.layout h.blocks drafts
  pub below : EachDraft (λ o. upload_number_of o < h.next) drafts
  pub uploads : EachDraft (IsOfUpload h.slots) drafts

-- the catalog is as it was but for what is reserved
pub record OnlyReserves (old new : Holding) : Type 0 where
  pub same : new ≡ record old { blocks = new.blocks }
  pub rows : new.blocks.rows ≡ old.blocks.rows

-- WHAT THE DRAFTS REPRESENT

-- The patch's upload is what it was when the patch began, but for a length that another one may have declared since,
-- and isn't complete.
abbrev pub IsStillOpen : Store → Patch → Type 0
IsStillOpen m p =
    (since : Option ℕ) × (upload_of m p.number ≡ Some (with_length p.began since))
    × (is_complete (with_length p.began since) ≡ false)

-- The draft is the patch's, and its bytes are where the disk is sure to hold what was written. Once another draft made
-- the upload longer or complete, only its need matters: it can't put anything after the upload's text.
pub record DraftRepresents (sure : Type 0) (x : IndexSet) (current : ℕ → ℕ) (first : ℕ)
    (slots : List (Option SlotRecord))
    (rows : List Row) (m : Store) (p : Patch) (o : SpoolDraft) : Type 0 where
  pub holds : Holds x p o
  pub below : p.number < m.next
  pub carries : sure → IsStillOpen m p → Carries x current first p o
  pub tail : IsStillOpen m p → IsOwnedBy slots rows p.number (tail_of o)

-- each patch has its draft, and the drafts reserve all blocks that are reserved
pub record DraftsRepresent (sure : Type 0) (x : IndexSet) (current : ℕ → ℕ) (first : ℕ)
    (slots : List (Option SlotRecord))
    (h : Held) (w : World) (drafts : List (Option SpoolDraft)) : Type 0 where
  pub each : (d : ℕ) → DraftOf (DraftRepresents sure x current first slots h.rows w.store) (find d w.patches)
      (draft_at drafts d)
  pub apart : IsApart w.patches
  pub grown : IsGrown w
  pub limit : w.blocks ≡ Some (length h.rows)
  pub all : (b : ℕ) → get_or h.reserved b false ≡ true → IsInSome (lists_at drafts) b

-- The catalog and the drafts represent the world. Where that is sure, the disk does too: it is honest, and holds the
-- texts. Where it isn't, nothing is claimed of the disk.
pub record StandsFor {D : Type 0} (sure : Bool) (disk : Ghosts D) (d : D) (h : Holding)
    (drafts : List (Option SpoolDraft)) (w : World) : Type 0 where
  pub stored : Stored sure disk d h w.store
  pub represents : DraftsRepresent (sure ≡ true) w.store.indexes (disk.current d) (text_page h.layout) h.slots
      h.blocks w drafts

-- WHAT A DRAFT BEGINS AFTER

-- a draft of the upload as it is, or the rules' refusal
abbrev pub OpensFor : Store → ℕ → ℕ → ℕ → Option ℕ → Option Upload → Result SpoolDraft UploadRefusal → Type 0
OpensFor m number offset count declare None (Ok o) = ⊥
OpensFor m number offset count declare None (Err e) = e ≡ NoSuch
OpensFor m number offset count declare (Some u) result = IsBegun m.indexes number offset count declare u result

abbrev pub OpensDraftAs : Store → ℕ → ℕ → ℕ → Option ℕ → Result SpoolDraft UploadRefusal → Type 0
OpensDraftAs m number offset count declare result = OpensFor m number offset count declare (upload_of m number) result

-- and it carries the upload's last bytes
abbrev pub CarriesFor : Store → ℕ → ℕ → Option ℕ → (ℕ → ℕ) → ℕ → SpoolDraft → Type 0
CarriesFor m number count declare current first o =
    (u : Upload) → upload_of m number ≡ Some u → Carries m.indexes current first (first_patch number count declare u) o
