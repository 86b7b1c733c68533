-- A table's `create` and `begin`.
use Rattle.std.proofs.Common.{◌≡◌, ℕ, ◌<◌, ◌≤◌, ◌^◌, false, length, Option, Some, None, Ok, ◌∙◌, ap, arith, Vec, Global}
use Rattle.std.proofs.lemmas.Bool.Decides.{nat_tests}
use Rattle.common.specs.declared.limits.TheConstants.{SLOTS}
use Rattle.upload_rules.specs.declared.errors.UploadRefusal.TheVariants as refusals
use Rattle.upload_rules.specs.declared.appends.OpenAppend.{OpenAppend}
use Rattle.upload_rules.specs.declared.slot.Slot.{Slot}
use Rattle.upload_rules.specs.declared.table.Table.{Table}
use Rattle.upload_rules.specs.Lengths.{is_too_large}
use Rattle.upload_rules.specs.Store.{New, Upload, upload_of}
use Rattle.upload_rules.specs.World.{Patch, World, free_number}
use Rattle.upload_rules.specs.Calls.{create_refusal, begin_refusal, begin_refusal_at, begun, first_patch}
use Rattle.upload_rules.specs.Answers.{BeginsWith}
use Rattle.upload_rules.specs.Slots.{AllRepresent, numbers, IsRising, IsBelow}
use Rattle.upload_rules.specs.Drafts.{IsPlaced}
use Rattle.upload_rules.specs.Table.{TableRepresents, IsOpened}
use Rattle.upload_rules.proofs.RecordOfUpload.{counts}
use Rattle.upload_rules.proofs.Worlds.{Appends, begins}

module _ (t : Table) (w : World) (represents : TableRepresents t w) where
  as_many : length w.store.uploads ≡ length t.slots.items
  as_many = counts w.store.indexes w.store.uploads t.slots.items represents.slots

  pub many : (new : New) → is_too_large new.declared ≡ false → SLOTS ≤ length t.slots.items
      → create_refusal w new ≡ Some refusals.Slots
  many new small full = grind (arith, nat_tests, as_many)

  pub spent_numbers : (new : New) → is_too_large new.declared ≡ false → length t.slots.items < SLOTS → 10 ^ 18 ≤ t.next
      → create_refusal w new ≡ Some refusals.Slots
  spent_numbers new small room last = grind (arith, nat_tests, as_many, represents.next)

  pub creatable : (new : New) → is_too_large new.declared ≡ false → length t.slots.items < SLOTS → t.next < 10 ^ 18
      → create_refusal w new ≡ None
  creatable new small room next = grind (arith, nat_tests, as_many, represents.next)

  pub begun_done : (holds : Patch → Type 0) (any : (p : Patch) → holds p) (n offset count : ℕ) (declare : Option ℕ)
      (u : Option Upload) (o : OpenAppend) (d : ℕ) (v : Appends) → upload_of w.store n ≡ u
      → IsOpened w n offset count declare u (Ok o) → IsPlaced t.appends.items o d v.items
      → (begin_refusal w n offset count declare ≡ None) × ((d ≡ free_number w) × BeginsWith holds n count declare
      (upload_of w.store n) × TableRepresents (record t { appends = v }) (begun w n count declare))
  begun_done holds any n offset count declare None o d v there opened placed = absurd opened
  begun_done holds any n offset count declare (Some u) o d v there opened placed =
      let b = begins t w represents n count declare u d o v there placed opened.1 in (
        ap (begin_refusal_at offset count declare) there ∙ opened.0,
        (b.0, rw there (any (first_patch n count declare u)), b.1),
      )

  -- as it was, when out of memory
  pub not_created : (v : Vec Slot Global) → v.items ≡ t.slots.items → TableRepresents (record t { slots = v }) w
  not_created v same =
      let slots : AllRepresent w.store.indexes w.store.uploads v.items = rw same represents.slots in
      let rising : IsRising (numbers v.items) = rw same represents.rising in
      let below : IsBelow (numbers v.items) w.store.next = rw same represents.below in
      assumption
