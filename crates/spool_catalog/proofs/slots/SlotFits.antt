-- The catalog fits together where one slot changes: a record comes, is replaced or goes.
use Rattle.std.proofs.lemmas.Grind.{common_steps}
use Rattle.std.proofs.Common.{◌≡◌, ◌≢◌, inl, inr, ◌⊎◌, ℕ, ◌<◌, ◌≤◌, List, [], Option, None, Some, length, get_or, set}
use Rattle.std.proofs.Common.{◌∙◌, arith}
use Rattle.std.proofs.lemmas.Bool.{cases_eq}
use Rattle.std.proofs.lemmas.List.{length-set}
use Rattle.common.specs.declared.limits.TheConstants.{SLOTS}
use Rattle.spool_blocks.specs.Blocks.{Row, Held}
use Rattle.spool_pages.specs.Fits.{FitsRow}
use Rattle.spool_pages.specs.View.{SlotRecord}
use Rattle.spool_catalog.specs.declared.order.NumberedSlot.{NumberedSlot}
use Rattle.spool_catalog.specs.Rows.{SameOthers}
use Rattle.spool_catalog.specs.Holding.{AreListsTo, FitsTogether, Holding, IsListOf, IsListedAt, Orders, Rises}
use Rattle.spool_catalog.proofs.slots.ChangedSlots.{slot_else, slot_here, slot_is}

-- rows that stay are the other slots'
pub same_others : (slot : ℕ) (old new : List Row) → new ≡ old → SameOthers slot old new
same_others slot old new same = search (arith, common_steps)

-- a slot's list is its own where its rows stay
list_stays : (slot : ℕ) (old new : List Row) → SameOthers slot old new → (s : ℕ) → s ≢ slot → (o : Option SlotRecord)
    (list : List ℕ) → IsListOf old s o list → IsListOf new s o list
list_stays slot old new others s other None list is = is
list_stays slot old new others s other (Some r) list is =
    record { size = is.size; owned = λ i lt. others.still (get_or list i 0) s i other (is.owned i lt) }

-- the slot's number is listed where it has a record; the other slots are listed as they were
pub record IsReordered (slot n : ℕ) (o : Option SlotRecord) (old new : List NumberedSlot) : Type 0 where
  pub rises : Rises new
  pub there : (r : SlotRecord) → o ≡ Some r → IsListedAt new n slot
  pub preserved : (k s : ℕ) → s ≢ slot → IsListedAt old k s → IsListedAt new k s
  pub only : (k s : ℕ) → IsListedAt new k s
      → ((s ≢ slot) × IsListedAt old k s) ⊎ ((k ≡ n) × (s ≡ slot) × ((r : SlotRecord) × (o ≡ Some r)))

module _ (h : Holding) (fits : FitsTogether h) (slot n : ℕ) (o : Option SlotRecord) (few : slot < SLOTS) (next : ℕ)
    (more : h.next ≤ next) (numbered : (r : SlotRecord) → o ≡ Some r → (r.number ≡ n) × (n < next))
    (order : List NumberedSlot) (entries : IsReordered slot n o h.order order) (blocks : Held)
    (size : length blocks.rows ≡ length h.blocks.rows) (others : SameOthers slot h.blocks.rows blocks.rows)
    (rows_fit : (b : ℕ) → FitsRow (get_or blocks.rows b None)) (lists : List (List ℕ)) (count : length lists ≡ SLOTS)
    (same_lists : (s : ℕ) → s ≢ slot → get_or lists s [] ≡ get_or h.lists s [])
    (has : IsListOf blocks.rows slot o (get_or lists slot [])) where
  inside : slot < length h.slots
  inside = omega (arith, few, fits.slot_count)

  orders : Orders (set h.slots slot o) order SLOTS
  orders = record {
    rises = entries.rises;
    below = λ k s l. elim (entries.only k s l) [
      | inl was ↦ fits.ordered.below k s was.1
      | inr now ↦ omega (arith, now.1, few)
    ];
    names = λ k s l. elim (entries.only k s l) [
      | inl was ↦
          let used = fits.ordered.names k s was.1 in
          record { used = used.used; there = slot_else h.slots slot o s was.0 ∙ used.there; is = used.is }
      | inr now ↦ search (arith, common_steps)
    ];
    all = λ s q lt e. elim (slot_is h.slots slot o s q inside e) [
      | inl here ↦ rw (here.0, (numbered q here.1).0) (entries.there q here.1)
      | inr was ↦ entries.preserved q.number s was.0 (fits.ordered.all s q lt was.1)
    ];
  }

  listed : AreListsTo blocks.rows (set h.slots slot o) lists SLOTS
  listed s lt = grind (arith, common_steps, cases_eq, slot_here, inside, slot_else, list_stays)

  pub changed_fits : FitsTogether (record h {
    next = next;
    slots = set h.slots slot o;
    order = order;
    lists = lists;
    blocks = blocks;
  })
  changed_fits = record {
    slot_count = length-set h.slots slot o ∙ fits.slot_count;
    list_count = count;
    row_count = size ∙ fits.row_count;
    rows_fit = rows_fit;
    below = λ s q e. elim (slot_is h.slots slot o s q inside e) [
      | inl here ↦ let is = numbered q here.1 in omega (arith, is.0, is.1)
      | inr was ↦ omega (arith, fits.below s q was.1, more)
    ];
    ordered = orders;
    listed = listed;
  }
