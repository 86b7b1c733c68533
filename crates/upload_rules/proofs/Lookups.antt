-- A table's slots by their numbers.
use Rattle.std.proofs.Common.{◌≡◌, ℕ, ◌<◌, ◌≤◌, length, get_or, Option, Some, None, arith}
use Rattle.enc_model.specs.Indexes.{IndexSet}
use Rattle.upload_rules.specs.declared.records.Record.{Record}
use Rattle.upload_rules.specs.declared.slot.Slot.{Slot}
use Rattle.upload_rules.specs.declared.table.Table.{Table}
use Rattle.upload_rules.specs.Store.{Upload, upload_of}
use Rattle.upload_rules.specs.World.{World}
use Rattle.upload_rules.specs.Records.{RepresentsOf, above, with_number}
use Rattle.upload_rules.specs.Slots.{numbers, IsNowhere, IsFirstAt, IsDivided, SlotRepresents}
use Rattle.upload_rules.specs.Table.{TableRepresents, IsSlotOf}
use Rattle.upload_rules.proofs.Places.{count_of}
use Rattle.upload_rules.proofs.RecordOfUpload.{found, none_found, next_found, no_next}

module _ (t : Table) (w : World) (represents : TableRepresents t w) (n : ℕ) where
  x : IndexSet
  x = w.store.indexes

  pub no_upload : IsNowhere (numbers t.slots.items) n → upload_of w.store n ≡ None
  no_upload other = none_found w.store.indexes n w.store.uploads t.slots.items represents.slots other

  pub upload_at : (place : ℕ) (s : Slot) → IsFirstAt (numbers t.slots.items) n place → s ≡ get_or t.slots.items place s
      → (u : Upload) × (upload_of w.store n ≡ Some u) × SlotRepresents w.store.indexes n u s
  upload_at place s first is =
      found w.store.indexes n w.store.uploads t.slots.items place s represents.slots
      (let l = first.within in omega (arith, l, count_of t.slots.items)) first.here first.before is

  pub no_slot : (o : Option Slot) → o ≡ None → IsNowhere (numbers t.slots.items) n
      → IsSlotOf w.store.indexes n (upload_of w.store n) o
  no_slot o e other = rw (e, no_upload other) tt

  pub slot_at : (place : ℕ) (s : Slot) → IsFirstAt (numbers t.slots.items) n place → s ≡ get_or t.slots.items place s
      → IsSlotOf w.store.indexes n (upload_of w.store n) (Some s)
  slot_at place s first is = let u = upload_at place s first is in rw u.1 u.2

  -- the upload of the least number above n
  pub following : (place : ℕ) (s : Slot) → IsDivided (numbers t.slots.items) n place → place < length t.slots.items
      → s ≡ get_or t.slots.items place s
      → RepresentsOf w.store.indexes (above n w.store.uploads) (Some s.record)
  following place s parts lt is =
      let u = next_found w.store.indexes n w.store.uploads t.slots.items place s represents.slots lt parts.before
      (parts.after place (omega arith) (omega (arith, lt, count_of t.slots.items))) is in
      rw u.1 u.2.represents

  pub none_following : (place : ℕ) (r : Option Record) → IsDivided (numbers t.slots.items) n place
      → length t.slots.items ≤ place → r ≡ None
      → RepresentsOf w.store.indexes (above n w.store.uploads) r
  none_following place r parts le none =
      let e = no_next w.store.indexes n w.store.uploads t.slots.items represents.slots
      (λ k lt. parts.before k (omega arith)) in
      rw (e, none) tt

-- the record reports the slot's upload
pub recorded : (y : IndexSet) (n : ℕ) (u : Option Upload) (s : Slot) → IsSlotOf y n u (Some s)
    → RepresentsOf y (with_number n u) (Some s.record)
recorded y n None s h = absurd h
recorded y n (Some u) s h = h.represents

pub not_recorded : (y : IndexSet) (n : ℕ) (u : Option Upload) (r : Option Record) → r ≡ None → IsSlotOf y n u None
    → RepresentsOf y (with_number n u) r
not_recorded y n None r e h = rw e tt
not_recorded y n (Some u) r e h = absurd h
