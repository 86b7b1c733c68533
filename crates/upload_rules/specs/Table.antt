-- The world that a table represents.
use Rattle.std.specs.Prelude.{◌≡◌, ℕ, Option, Some, None, Result, Ok, Err}
use Rattle.enc_model.specs.Indexes.{IndexSet}
use Rattle.upload_rules.specs.declared.errors.UploadRefusal.{UploadRefusal}
use Rattle.upload_rules.specs.declared.slot.Slot.{Slot}
use Rattle.upload_rules.specs.declared.appends.OpenAppend.{OpenAppend}
use Rattle.upload_rules.specs.Store.{Upload, find}
use Rattle.upload_rules.specs.World.{World}
use Rattle.upload_rules.specs.Calls.{begin_refusal_at, first_patch}
use Rattle.upload_rules.specs.Apart.{IsApart}
use Rattle.upload_rules.specs.Grown.{IsGrown}
use Rattle.upload_rules.specs.Slots.{numbers, IsRising, IsBelow, SlotRepresents, AllRepresent}
use Rattle.upload_rules.specs.Drafts.{DraftOf, draft_at}
use Rattle.upload_rules.specs.Appends.{AppendRepresents}
use Rattle.upload_rules.specs.declared.table.Table.{Table}

pub record TableRepresents (t : Table) (w : World) : Type 0 where
  pub indexes : t.indexes ≡ w.store.indexes
  pub next : t.next ≡ w.store.next
  pub slots : AllRepresent w.store.indexes w.store.uploads t.slots.items
  pub rising : IsRising (numbers t.slots.items)
  pub below : IsBelow (numbers t.slots.items) w.store.next
  pub appends : (d : ℕ) → DraftOf (AppendRepresents w.store.indexes w.store.next) (find d w.patches)
      (draft_at t.appends.items d)
  pub apart : IsApart w.patches
  pub grown : IsGrown w
  pub unlimited : w.blocks ≡ None

-- The slot represents the upload, or neither is there.
abbrev pub IsSlotOf : IndexSet → ℕ → Option Upload → Option Slot → Type 0
IsSlotOf x n None None = Unit {0}
IsSlotOf x n (Some u) (Some s) = SlotRepresents x n u s
IsSlotOf x n _ _ = ⊥

-- The append of an upload, or the refusal of the rules.
abbrev pub IsOpened : World → ℕ → ℕ → ℕ → Option ℕ → Option Upload → Result OpenAppend UploadRefusal → Type 0
IsOpened w n offset count declare None (Ok o) = ⊥
IsOpened w n offset count declare (Some u) (Ok o) =
    (begin_refusal_at offset count declare (Some u) ≡ None)
    × AppendRepresents w.store.indexes w.store.next (first_patch n count declare u) o
IsOpened w n offset count declare u (Err e) = begin_refusal_at offset count declare u ≡ Some e
