-- What pages make of a view.
use Rattle.std.proofs.Common.{◌≡◌, ℕ, ◌+◌, ◌-◌, ◌*◌, ◌/◌, ◌%◌, ◌<◌, ◌≤◌, List, [], Option, Some, None, IsSome, length}
use Rattle.std.proofs.Common.{get_or, refl, ◌∙◌, ap, arith, ⊎_elim}
use Rattle.std.proofs.lemmas.Bool.{cases_eq}
use Rattle.std.proofs.lemmas.Bool.Decides.{nat_tests}
use Rattle.std.proofs.lemmas.List.{get_or-set_same, get_or-set_other}
use Rattle.common.specs.declared.limits.TheConstants.{ROWS, SLOTS}
use Rattle.spool_blocks.specs.Blocks.{Row}
use Rattle.spool_journal.specs.Image.{IsPagePut, byte_of, journal_pages, page_number}
use Rattle.spool_pages.specs.Changes.{page_in, UpdatedBy, state_number, record_number, row_number, EncodesState}
use Rattle.spool_pages.specs.Changes.{EncodesSlot}
use Rattle.spool_pages.specs.Changes.{EncodesRow, ChangesButRows, Changes, with_next, with_record, with_slot}
use Rattle.spool_pages.specs.Changes.{SameRowsBut, neighbour}
use Rattle.spool_pages.specs.View.{SlotRecord, View, AreAt, slot_at, row_bytes}
use Rattle.spool_pages.specs.declared.version.Version.{Version}
use Rattle.spool_pages.proofs.PageIn.{in_none, in_put, in_put_else, none_same, of_found, same_page, some_length}

pub is_neighbour : (s slot : ℕ) → s / 2 ≡ slot / 2 → (s ≡ slot → ⊥) → s ≡ neighbour slot
is_neighbour s slot same ne = grind (arith, nat_tests)

-- the page of two slots, given this one's and the one's beside it
module _ (pages : List (ℕ × List ℕ)) (v : View) (slot : ℕ) (own : Option SlotRecord) (bytes : List ℕ) where
  -- a slot before the change and after it, by the version
  abbrev was : ℕ → Version × Option SlotRecord
  was s = (v.version, slot_at v s)

  abbrev now : ℕ → Version × Option SlotRecord
  now s = (v.version, slot_at (with_slot v slot own) s)

  pub slots_updated : length v.slots ≡ SLOTS → slot < SLOTS → page_in (record_number v.blocks slot) pages ≡ Some bytes
      → ((s : ℕ) → s < SLOTS → (s / 2 ≡ slot / 2 → ⊥) → page_in (record_number v.blocks s) pages ≡ None)
      → EncodesSlot slot bytes (v.version, own)
      → EncodesSlot (neighbour slot) bytes (v.version, slot_at v (neighbour slot))
      → (s : ℕ) → s < SLOTS → UpdatedBy (page_in (record_number v.blocks s) pages) (EncodesSlot s) (was s) (now s)
  slots_updated long few here others encodes beside s lt = ⊎_elim
      (λ (e : s ≡ slot). rw (e, here, get_or-set_same v.slots slot own None (omega (arith, long, few))) encodes)
      (λ (ne : s ≡ slot → ⊥). rw (get_or-set_other v.slots slot s own None ne) (⊎_elim
      (λ (same : s / 2 ≡ slot / 2). rw (same, here, is_neighbour s slot same ne) beside)
      (λ (apart : s / 2 ≡ slot / 2 → ⊥). rw (others s lt apart) refl)
      (cases_eq (s / 2) (slot / 2))))
      (cases_eq s slot)

-- what the slot beside it has, by the view's version
pub encodes_beside : (v : View) {version : Version} {own : Option SlotRecord} (slot : ℕ) (bytes : List ℕ)
    → v.version ≡ version → slot_at v (neighbour slot) ≡ own → EncodesSlot (neighbour slot) bytes (version, own)
    → EncodesSlot (neighbour slot) bytes (v.version, slot_at v (neighbour slot))
encodes_beside v slot bytes version beside encodes = rw (beside, version) encodes

-- THE NEXT NUMBER

pub next_changes : {none one : List (ℕ × List ℕ)} {place : ℕ} {bytes : List ℕ} → none ≡ []
    → IsPagePut none place bytes one → (v : View) (next : ℕ) → place ≡ state_number v.blocks
    → EncodesState bytes (v.version, next) → Changes one v (with_next v next)
next_changes {none = none} {one = one} {place = place} {bytes = bytes} empty put v next here encodes = record {
  others = record {
    blocks = refl;
    indexes = refl;
    state = rw state_in encodes;
    slots = λ s lt. rw (none_else (record_number v.blocks s) (omega (arith, here))) refl;
    rows = λ b lt no. refl;
  };
  rows = λ b lt. rw (none_else (row_number v.blocks b) (omega (arith, here))) refl;
}
  where
    none_else : (q : ℕ) → (place ≡ q → ⊥) → page_in q one ≡ None
    none_else q not = in_put_else put q not ∙ in_none q none empty

    state_in : page_in (state_number v.blocks) one ≡ Some bytes
    state_in = rw here at (in_put put (in_none place none empty))

-- A NEW RECORD AND THE NEXT NUMBER

module _ {none first both : List (ℕ × List ℕ)} {state place : ℕ} {state_bytes bytes : List ℕ} where
  pub new_changes : none ≡ [] → IsPagePut none state state_bytes first → IsPagePut first place bytes both
      → (v : View) (next slot : ℕ) (r : SlotRecord)
      → state ≡ state_number v.blocks → place ≡ record_number v.blocks slot → slot < SLOTS → length v.slots ≡ SLOTS
      → EncodesState state_bytes (v.version, next) → EncodesSlot slot bytes (v.version, Some r)
      → EncodesSlot (neighbour slot) bytes (v.version, slot_at v (neighbour slot))
      → Changes both v (record (with_record v slot r) { next = next })
  new_changes empty put_state put_slot v next slot r state_is place_is few long encodes_next encodes beside = record {
    others = record {
      blocks = refl;
      indexes = refl;
      state = rw state_in encodes_next;
      slots = slots_updated both v slot (Some r) bytes long few slot_in
          (λ s lt apart. none_else (record_number v.blocks s) (omega (arith, state_is))
          (omega (arith, place_is, apart))) encodes beside;
      rows = λ b lt no. refl;
    };
    rows = λ b lt. rw (none_else (row_number v.blocks b) (omega (arith, state_is)) (omega (arith, place_is, few))) refl;
  }
    where
      none_else : (q : ℕ) → (state ≡ q → ⊥) → (place ≡ q → ⊥) → page_in q both ≡ None
      none_else q not_state not_slot =
          in_put_else put_slot q not_slot ∙ in_put_else put_state q not_state ∙ in_none q none empty

      state_in : page_in (state_number v.blocks) both ≡ Some state_bytes
      state_in = rw state_is at (in_put_else put_slot state (λ e. omega (arith, e, state_is, place_is))
          ∙ in_put put_state (in_none state none empty))

      slot_in : page_in (record_number v.blocks slot) both ≡ Some bytes
      slot_in = rw place_is at (in_put put_slot (in_put_else put_state place (λ e. omega (arith, e, state_is, place_is))
          ∙ in_none place none empty))

-- A SLOT, AND ROOM FOR ROWS

module _ (pages : List (ℕ × List ℕ)) {none first : List (ℕ × List ℕ)} {place : ℕ} {bytes : List ℕ} where
  pub room_some : (j : ℕ) → none ≡ [] → IsPagePut none place bytes first
      → ((page : ℕ) → page < j → page_in page pages ≡ page_in page first) → place < j → 1 ≤ length pages
  room_some j empty put prefix below =
      some_length place pages bytes (prefix place below ∙ in_put put (in_none place none empty))

  pub room_changes : none ≡ [] → IsPagePut none place bytes first
      → (v : View) (slot : ℕ) (own : Option SlotRecord) (blocks : List ℕ) (rows : List Row)
      → ((page : ℕ) → page < 282 + journal_pages v.blocks → page_in page pages ≡ page_in page first)
      → ((i : ℕ) → i < length blocks → IsSome (page_in (row_number v.blocks (get_or blocks i 0)) pages))
      → place ≡ record_number v.blocks slot → slot < SLOTS → length v.slots ≡ SLOTS
      → EncodesSlot slot bytes (v.version, own)
      → EncodesSlot (neighbour slot) bytes (v.version, slot_at v (neighbour slot))
      → SameRowsBut blocks v.rows rows
      → ChangesButRows pages v (record (with_slot v slot own) { rows = rows })
  room_changes empty put v slot own blocks rows prefix there place_is few long encodes beside same = record {
    blocks = refl;
    indexes = refl;
    state = rw (none_else (state_number v.blocks) (omega arith) (omega (arith, place_is))) refl;
    slots = slots_updated pages v slot own bytes long few slot_in
        (λ s lt apart. none_else (record_number v.blocks s) (omega (arith, lt)) (omega (arith, place_is, apart)))
        encodes
        beside;
    rows = λ b lt no. same b (λ i below e. let some = there i below in grind arith);
  }
    where
      none_else : (q : ℕ) → q < 282 + journal_pages v.blocks → (place ≡ q → ⊥) → page_in q pages ≡ None
      none_else q below not_slot = prefix q below ∙ in_put_else put q not_slot ∙ in_none q none empty

      slot_in : page_in (record_number v.blocks slot) pages ≡ Some bytes
      slot_in = rw place_is at (prefix place (omega (arith, place_is, few)) ∙ in_put put (in_none place none empty))

-- THE ROWS

module _ (old new : List (ℕ × List ℕ)) (rows : List Row) (first : ℕ) where
  pub filled_changes : length new ≡ length old → ((k : ℕ) → k < length old → page_number new k ≡ page_number old k)
      → ((k : ℕ) → page_number old k < first → get_or new k (0, []) ≡ get_or old k (0, []))
      → ((k : ℕ) → k < length old → first ≤ page_number old k → (i : ℕ) → i < ROWS
      → AreAt (byte_of (get_or new k (0, [])).1) (8 * i) 8
      (row_bytes (get_or rows (ROWS * (page_number old k - first) + i) None)))
      → (v v' : View) → first ≡ 282 + journal_pages v.blocks → ChangesButRows old v v' → v'.rows ≡ rows
      → Changes new v v'
  filled_changes long numbers others filled v v' first_is changes rows_are = record {
    others = record {
      blocks = changes.blocks;
      indexes = changes.indexes;
      state = rw (same (state_number v.blocks) (omega (arith, first_is))) changes.state;
      slots = λ s lt. rw (same (record_number v.blocks s) (omega (arith, first_is, lt))) (changes.slots s lt);
      rows = λ b lt no. changes.rows b lt (none_same (row_number v.blocks b) old new long numbers no);
    };
    rows = λ b lt. by b lt (page_in (row_number v.blocks b) new) refl;
  }
    where
      same : (q : ℕ) → q < first → page_in q new ≡ page_in q old
      same q below = same_page q old new long numbers
          (λ k lt e. ap (λ (p : ℕ × List ℕ). p.1) (others k (omega (arith, e, below))))

      row_in : (b k : ℕ) → k < length new → page_number new k ≡ row_number v.blocks b
          → AreAt (byte_of (get_or new k (0, [])).1) (8 * (b % ROWS)) 8 (row_bytes (get_or v'.rows b None))
      row_in b k lt e =
          let number = numbers k (omega (arith, lt, long)) in
          let at : ROWS * (page_number old k - first) + b % ROWS ≡ b = omega (arith, number, e, first_is) in
          rw rows_are (rw at at (filled k (omega (arith, lt, long)) (omega (arith, number, e, first_is)) (b % ROWS)
          (omega arith)))

      by : (b : ℕ) → b < ROWS * (journal_pages v.blocks - 257) → (o : Option (List ℕ))
          → page_in (row_number v.blocks b) new ≡ o → UpdatedBy o (EncodesRow b) (get_or v.rows b None)
          (get_or v'.rows b None)
      by b lt None is = changes.rows b lt (none_same (row_number v.blocks b) old new long numbers is)
      by b lt (Some bytes) is =
          of_found (λ (xs : List ℕ). AreAt (byte_of xs) (8 * (b % ROWS)) 8 (row_bytes (get_or v'.rows b None)))
          (row_number v.blocks b) new (row_in b) bytes is
