use Rattle.std.proofs.Common.{◌≡◌, ◌+◌, ◌-◌, ◌<◌, ◌^◌, ℕ, List, Option, Some, None, Ok, refl, ap, arith}
use Rattle.std.proofs.Common.{◌⊎◌, inl, inr, sym}
use Rattle.std.specs.Int.{to_be_bytes, w32}
use Rattle.spool_journal.specs.Image.{byte_of}
use Rattle.spool_pages.specs.Fits.{FitsRow}
use Rattle.spool_pages.specs.View.{AreAt, row_bytes}
use Rattle.spool_pages.proofs.RowBytes.{slot_at, ordinal_at, free_at, free_ordinal_at, owned_at, free_of_zeros}
use Rattle.spool_pages.proofs.rows.row_at.Goals as goal

module _ (page : List ℕ) (at slot ordinal : ℕ)
    (slot_is : (n : ℕ) → n < 2 ^ 32 → AreAt (byte_of page) at 4 (to_be_bytes w32 n) → slot ≡ n)
    (ordinal_is : (n : ℕ) → n < 2 ^ 32 → AreAt (byte_of page) (at + 4) 4 (to_be_bytes w32 n) → ordinal ≡ n) where
  -- what the two fields are of a row that is there
  fields : (row : Option (ℕ × ℕ)) → FitsRow row → AreAt (byte_of page) at 8 (row_bytes row)
      → ((row ≡ None) × (slot ≡ 0) × (ordinal ≡ 0)) ⊎ ((0 < slot) × (row ≡ Some (slot - 1, ordinal)))
  fields None fits are_at = inl (
    refl,
    slot_is 0 (omega arith) (free_at (byte_of page) at are_at),
    ordinal_is 0 (omega arith) (free_ordinal_at (byte_of page) at are_at),
  )
  fields (Some o) fits are_at =
      let is = slot_is (o.0 + 1) fits.0 (slot_at (byte_of page) at o.0 o.1 are_at) in
      let same = ordinal_is o.1 fits.1 (ordinal_at (byte_of page) at o.0 o.1 are_at) in
      inr (omega arith, grind arith)

  owned : 0 < slot → (row : Option (ℕ × ℕ)) → FitsRow row → AreAt (byte_of page) at 8 (row_bytes row)
      → Some (slot - 1, ordinal) ≡ row
  owned some row fits are_at = let row_is = fields row fits are_at in grind arith

pub returns-then-slot-gt0-clause-encoded : goal.returns-then-slot-gt0-clause-encoded
returns-then-slot-gt0-clause-encoded c row fits are_at =
    ap Ok (owned c.args.page.now c.args.at _ _ c.get_u32-slot.ensures.is c.get_u32-ordinal.ensures.is
    c.if-slot-gt0.true row fits are_at)

pub returns-then-slot-gt0-clause-valid : goal.returns-then-slot-gt0-clause-valid
returns-then-slot-gt0-clause-valid c =
    let n = c.get_u32-slot.result in
    let is : n ≡ n - 1 + 1 = omega (arith, c.if-slot-gt0.true) in
    owned_at (byte_of c.args.page.now) c.args.at (n - 1) c.get_u32-ordinal.result
    (rw (sym is) c.get_u32-slot.ensures.there) c.get_u32-ordinal.ensures.there

pub returns-then-ordinal-gt0-clause-encoded : goal.returns-then-ordinal-gt0-clause-encoded
returns-then-ordinal-gt0-clause-encoded c row fits are_at =
    let row_is = fields c.args.page.now c.args.at _ _ c.get_u32-slot.ensures.is c.get_u32-ordinal.ensures.is row fits
    are_at in
    absurd (grind (arith, c.if-slot-gt0.false, c.if-ordinal-gt0.true))

pub returns-clause-encoded : goal.returns-clause-encoded
returns-clause-encoded c row fits are_at =
    let row_is = fields c.args.page.now c.args.at _ _ c.get_u32-slot.ensures.is c.get_u32-ordinal.ensures.is row fits
    are_at in
    grind (arith, c.if-slot-gt0.false)

pub returns-clause-valid : goal.returns-clause-valid
returns-clause-valid c =
    let zero_slot : c.get_u32-slot.result ≡ 0 = omega (arith, c.if-slot-gt0.false) in
    let zero_ordinal : c.get_u32-ordinal.result ≡ 0 = omega (arith, c.if-ordinal-gt0.false) in
    free_of_zeros (byte_of c.args.page.now) c.args.at (rw zero_slot at c.get_u32-slot.ensures.there)
    (rw zero_ordinal at c.get_u32-ordinal.ensures.there)
