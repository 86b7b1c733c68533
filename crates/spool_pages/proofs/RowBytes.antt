-- The bytes of a row.
use Rattle.std.proofs.Common.{◌≡◌, ℕ, ◌+◌, ◌*◌, ◌/◌, ◌%◌, ◌<◌, ◌≤◌, List, [], Option, Some, None, length, get_or}
use Rattle.std.proofs.Common.{refl, ◌∙◌, arith}
use Rattle.std.proofs.lemmas.List.{get_or_past}
use Rattle.std.proofs.lemmas.Bool.{cases_lt}
use Rattle.std.specs.Int.{to_be_bytes, w32}
use Rattle.common.specs.declared.limits.TheConstants.{ROWS, SLOTS}
use Rattle.spool_journal.specs.declared.TheConstants.{PAGE}
use Rattle.spool_journal.specs.Image.{byte_of}
use Rattle.spool_pages.specs.Bytes.{IsPadded}
use Rattle.spool_pages.specs.Fits.{FitsRow}
use Rattle.spool_pages.specs.View.{AreAt, row_bytes}
use Rattle.spool_pages.proofs.Bytes.{padded_zeros}
use Rattle.spool_pages.proofs.Numbers.{four_are}
use Rattle.spool_pages.proofs.RecordBytes.{at_prefix, at_beyond, at_both}

free_is : row_bytes None ≡ []
unfolding row_bytes
free_is = refl

module _ (f : ℕ → ℕ) (at : ℕ) where
  pub slot_at : (slot ordinal : ℕ) → AreAt f at 8 (row_bytes (Some (slot, ordinal)))
      → AreAt f at 4 (to_be_bytes w32 (slot + 1))
  unfolding row_bytes
  slot_at slot ordinal are_at = at_prefix (to_be_bytes w32 (slot + 1)) _ 4 refl (omega arith) are_at

  pub ordinal_at : (slot ordinal : ℕ) → AreAt f at 8 (row_bytes (Some (slot, ordinal)))
      → AreAt f (at + 4) 4 (to_be_bytes w32 ordinal)
  unfolding row_bytes
  ordinal_at slot ordinal are_at = at_beyond (to_be_bytes w32 (slot + 1)) _ 4 4 refl (omega arith) are_at

  pub free_at : AreAt f at 8 (row_bytes None) → AreAt f at 4 (to_be_bytes w32 0)
  unfolding row_bytes
  free_at are_at = record { each = λ i lt. grind (arith, are_at.each i, (padded_zeros 4).each i) }

  pub free_ordinal_at : AreAt f at 8 (row_bytes None) → AreAt f (at + 4) 4 (to_be_bytes w32 0)
  unfolding row_bytes
  free_ordinal_at are_at = record { each = λ i lt. grind (arith, are_at.each (4 + i), (padded_zeros 4).each i) }

  pub free_of_zeros : AreAt f at 4 (to_be_bytes w32 0) → AreAt f (at + 4) 4 (to_be_bytes w32 0)
      → AreAt f at 8 (row_bytes None)
  unfolding row_bytes
  free_of_zeros slot ordinal = record {
    each = λ i lt.
        (at_both (to_be_bytes w32 0) (to_be_bytes w32 0) 4 4 refl slot ordinal).each i lt
        ∙ (padded_zeros 8).each i;
  }

  pub owned_at : (slot ordinal : ℕ) → AreAt f at 4 (to_be_bytes w32 (slot + 1))
      → AreAt f (at + 4) 4 (to_be_bytes w32 ordinal) → AreAt f at 8 (row_bytes (Some (slot, ordinal)))
  unfolding row_bytes
  owned_at slot ordinal first second = at_both (to_be_bytes w32 (slot + 1)) _ 4 4 refl first second

-- a number put into a page
pub number_there : (new bytes : List ℕ) (at n : ℕ) → bytes ≡ to_be_bytes w32 n
    → ((k : ℕ) → k < length bytes → get_or new (at + k) 0 ≡ get_or bytes k 0)
    → AreAt (byte_of new) at 4 (to_be_bytes w32 n)
number_there new bytes at n is inside =
    let are_at : AreAt (byte_of new) at (length bytes) bytes = record { each = inside } in rw is at are_at

-- zeros where no row is
pub free_there : (page : List ℕ) (from at : ℕ) (row : Option (ℕ × ℕ))
    → ((p : ℕ) → from ≤ p → get_or page p 0 ≡ 0) → from ≤ at → row ≡ None
    → AreAt (byte_of page) at 8 (row_bytes row)
free_there page from at row blank le is =
    rw (is, free_is) (record { each = λ i lt. blank (at + i) (omega (arith, le)) })

-- a page of free rows
pub all_free : (page : List ℕ) → length page ≡ PAGE
    → ((k : ℕ) → k < ROWS → AreAt (byte_of page) (8 * k) 8 (row_bytes None)) → IsPadded page []
all_free page full rows = record {
  each = λ i.
      let row = λ (lt : i / 8 < SLOTS). (rw free_is at (rows (i / 8) lt)).each (i % 8) in
      grind (arith, get_or_past, cases_lt i PAGE);
}

-- a row at a place where all is zeros
pub free_only : (page : List ℕ) (at : ℕ) (row : Option (ℕ × ℕ)) → IsPadded page [] → FitsRow row
    → AreAt (byte_of page) at 8 (row_bytes row) → row ≡ None
free_only page at None blank fits are_at = refl
free_only page at (Some o) blank fits are_at =
    let nothing : AreAt (byte_of page) at 4 (to_be_bytes w32 0) =
    free_at (byte_of page) at (free_there page 0 at None (λ p from. blank.each p) (omega arith) refl) in
    let none = four_are page at 0 (omega arith) nothing in
    let slot = four_are page at (o.0 + 1) fits.0 (slot_at (byte_of page) at o.0 o.1 are_at) in
    absurd (omega (arith, none, slot))
