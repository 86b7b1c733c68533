-- A catalog has a valid view.
use Rattle.std.proofs.lemmas.Grind.{common_steps}
use Rattle.std.proofs.Common.{◌≡◌, ℕ, List, [], Option, None, Some, false, get_or, replicate, sym, subst}
use Rattle.std.proofs.Common.{arith, length}
use Rattle.common.specs.declared.limits.TheConstants.{SLOTS}
use Rattle.spool_pages.specs.View.{SlotRecord, View, slot_at}
use Rattle.spool_pages.specs.Fits.{FitsRow}
use Rattle.spool_catalog.specs.Holding.{Holding, AreBelow, AreListsTo, FitsTogether, HasBlocks, Orders}
use Rattle.spool_catalog.specs.Catalog.{HasView, HasViewAlone}
use Rattle.spool_catalog.specs.Shows.{IsValid}

module _ (h : Holding) (v : View) (fits : FitsTogether h) (valid : IsValid v) (blocks : v.blocks ≡ h.layout)
    (version : h.version ≡ v.version) (next : h.next ≡ v.next) (indexes : h.indexes ≡ v.indexes)
    (slots : h.slots ≡ v.slots) (rows : h.blocks.rows ≡ v.rows) where
  has : (s : ℕ) (r : SlotRecord) → slot_at v s ≡ Some r → HasBlocks h.blocks.rows s r.text_len (get_or h.lists s [])
  has s r e = search (arith, common_steps)

  pub has_view_of : HasView h v
  has_view_of = record {
    blocks = sym blocks;
    version = version;
    next = next;
    indexes = indexes;
    slots = slots;
    rows = rows;
    ordered = subst (λ (xs : List (Option SlotRecord)). Orders xs h.order SLOTS) slots fits.ordered;
    listed = λ s r e. record { owned = λ i lt. rw rows at ((has s r e).owned i lt); once = (valid.lists s r e).once };
    sizes = λ s r e. (has s r e).size;
  }

  pub has_view : h.blocks.reserved ≡ replicate v.blocks false → HasViewAlone h v
  has_view reserved = (has_view_of, reserved)

-- the parts fit one another, by what was found of slots that are the same
pub fits_with : (h : Holding) (first second : List (Option SlotRecord)) → first ≡ h.slots → second ≡ h.slots
    → length h.slots ≡ SLOTS → length h.lists ≡ SLOTS → length h.blocks.rows ≡ h.layout
    → ((b : ℕ) → FitsRow (get_or h.blocks.rows b None)) → AreBelow h.next h.slots → Orders first h.order SLOTS
    → AreListsTo h.blocks.rows second h.lists SLOTS → FitsTogether h
fits_with h first second same same' slots lists rows fit below orders listed = search (arith, common_steps)
