-- The pages that bring a view to version 2.
use Rattle.std.proofs.Common.{◌≡◌, inl, inr, ℕ, ◌+◌, ◌*◌, ◌/◌, ◌%◌, ◌<◌, ◌≤◌, List, Option, Some, None, get_or}
use Rattle.std.proofs.Common.{refl, ◌∙◌, arith}
use Rattle.std.proofs.lemmas.Bool.{cases_eq, cases_lt}
use Rattle.common.specs.declared.limits.TheConstants.{SLOTS}
use Rattle.spool_journal.specs.Image.{IsPagePut, byte_of, journal_pages}
use Rattle.spool_pages.specs.Changes.{page_in, state_number, record_number, row_number, EncodesState, EncodesSlot}
use Rattle.spool_pages.specs.Changes.{Changes, upgraded}
use Rattle.spool_pages.specs.View.{SlotRecord, View, AreAt, slot_bytes}
use Rattle.spool_pages.specs.declared.version.Version.TheVariants.{Two}
use Rattle.spool_pages.proofs.PageIn.{in_put, in_put_else}

-- the slot's page is among them, and encodes this slot in version 2
pub record EncodesSlotIn (n : ℕ) (pages : List (ℕ × List ℕ)) (s : ℕ) (slot : Option SlotRecord) : Type 0 where
  pub bytes : List ℕ
  pub there : page_in (record_number n s) pages ≡ Some bytes
  pub encodes : EncodesSlot s bytes (Two, slot)

-- the page of the next two slots is put among those before
module _ (n pair : ℕ) (slots : List (Option SlotRecord)) {old new : List (ℕ × List ℕ)} {page : ℕ} {bytes : List ℕ}
    (put : IsPagePut old page bytes new) (here : page ≡ 26 + journal_pages n + pair) where
  put_slot : page_in page old ≡ None → (s place : ℕ) → s / 2 ≡ pair → place ≡ 2048 * (s % 2)
      → AreAt (byte_of bytes) place 2048 (slot_bytes Two (get_or slots s None))
      → EncodesSlotIn n new s (get_or slots s None)
  put_slot none s place half is are_at = record {
    bytes = bytes;
    there = let q : page ≡ record_number n s = omega (arith, here, half) in rw q at (in_put put none);
    encodes = rw is at are_at;
  }

  pub slots_more : ((s : ℕ) → s < 2 * pair → EncodesSlotIn n old s (get_or slots s None)) → page_in page old ≡ None
      → AreAt (byte_of bytes) 0 2048 (slot_bytes Two (get_or slots (2 * pair) None))
      → AreAt (byte_of bytes) 2048 2048 (slot_bytes Two (get_or slots (2 * pair + 1) None))
      → (s : ℕ) → s < 2 * (pair + 1) → EncodesSlotIn n new s (get_or slots s None)
  slots_more before none first second s lt = elim (cases_lt s (2 * pair)) [
    | inl below ↦
        let was = before s below in
        record {
          bytes = was.bytes;
          there = in_put_else put (record_number n s) (λ e. omega (arith, e, here, below)) ∙ was.there;
          encodes = was.encodes;
        }
    | inr from ↦ elim (cases_eq s (2 * pair)) [
      | inl even ↦ put_slot none s 0 (omega (arith, even)) (omega (arith, even)) (rw even first)
      | inr other ↦
          let odd : s ≡ 2 * pair + 1 = omega (arith, lt, from, other) in
          put_slot none s 2048 (omega (arith, odd)) (omega (arith, odd)) (rw odd second)
    ]
  ]

-- the state page and all slots' pages bring the view to version 2
pub upgraded_changes : (n : ℕ) (pages : List (ℕ × List ℕ)) (slots : List (Option SlotRecord)) (next : ℕ)
    (state : List ℕ) → page_in (state_number n) pages ≡ Some state → EncodesState state (Two, next)
    → ((s : ℕ) → s < SLOTS → EncodesSlotIn n pages s (get_or slots s None))
    → ((q : ℕ) → 282 + journal_pages n ≤ q → page_in q pages ≡ None)
    → (v : View) → v.blocks ≡ n → v.next ≡ next → v.slots ≡ slots → Changes pages v (upgraded v)
upgraded_changes n pages slots next state state_in encodes_state each none v size next_is slots_are = record {
  others = record {
    blocks = refl;
    indexes = refl;
    state = rw (size, state_in, next_is) encodes_state;
    slots = λ s lt. let at = each s lt in rw (size, at.there, slots_are) at.encodes;
    rows = λ b lt no. refl;
  };
  rows = λ b lt. rw (none (row_number v.blocks b) (rw size (omega arith))) refl;
}
