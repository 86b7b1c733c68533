-- A new record in the catalog.
use Rattle.std.proofs.lemmas.Grind.{common_steps}
use Rattle.std.proofs.Common.{◌≡◌, inl, inr, ℕ, ◌+◌, List, [], Some, length, get_or, slice_set, refl, sym, ◌∙◌}
use Rattle.std.proofs.Common.{ap, arith}
use Rattle.std.proofs.lemmas.Option.{same_Some}
use Rattle.spool_pages.specs.View.{SlotRecord}
use Rattle.spool_catalog.specs.TakenIn.{HasRoomAt}
use Rattle.spool_catalog.specs.declared.order.NumberedSlot.{NumberedSlot}
use Rattle.spool_catalog.specs.Holding.{Holding, FitsTogether, IsAdded, IsListedAt}
use Rattle.spool_catalog.proofs.slots.SlotFits.{same_others}
use Rattle.spool_catalog.proofs.slots.SlotFits.{changed_fits}

-- the next number is none of those in use
pub next_free : (h : Holding) → FitsTogether h → (s : ℕ) → IsListedAt h.order h.next s → ⊥
next_free h fits s l =
    let used = fits.ordered.names h.next s l in
    omega (arith, fits.below s used.used used.there, used.is)

pub taken_fits : (h : Holding) (slot : ℕ) (r : SlotRecord) → FitsTogether h → HasRoomAt h slot → r.number ≡ h.next
    → r.text_len ≡ 0 → (order : List NumberedSlot) → IsAdded h.order h.next slot order
    → FitsTogether (record h { next = h.next + 1; slots = slice_set h.slots slot (Some r); order = order })
taken_fits h slot r fits room number no_text order is =
    let none : get_or h.lists slot [] ≡ [] = rw room.free at (fits.listed slot room.within) in
    changed_fits h fits slot h.next (Some r) room.within (h.next + 1) (omega arith)
    (λ q e. (ap (λ (x : SlotRecord). x.number) (sym (same_Some r q e)) ∙ number, omega arith)) order
    record {
      rises = is.rises;
      there = λ q e. is.there;
      preserved = λ k s other. is.preserved k s;
      only = λ k s l. elim (is.only k s l) [
        | inl old ↦ search (arith, common_steps)
        | inr this ↦ inr (this.0, this.1, (r, refl))
      ];
    } h.blocks refl (same_others slot h.blocks.rows h.blocks.rows refl) fits.rows_fit h.lists fits.list_count
    (λ s other. refl)
    record { size = omega (arith, ap length none, no_text); owned = λ i lt. absurd (omega (arith, lt, ap length none)) }
