use Rattle.std.proofs.Common.{rules, ◌≡◌, ◌∙◌, ◌<◌, ◌≤◌, ℕ, List, Option, None, Some, length, option_copied, ap}
use Rattle.std.proofs.Common.{subst, sym}
use Rattle.std.proofs.lemmas.List.{get_or_default}
use Rattle.upload_rules.specs.Records.{RepresentsOf}
use Rattle.upload_rules.specs.Store.{Upload}
use Rattle.spool_catalog.specs.declared.order.NumberedSlot.{NumberedSlot}
use Rattle.spool_catalog.specs.Holding.{numbered, IsPlaceFor, Rises}
use Rattle.spool_catalog.proofs.Answered.{found, named, none_after, some_after}
use Rattle.spool_catalog.proofs.catalog.Catalog.record_after.Goals as goal
use Rattle.spool_catalog.proofs.slots.ChangedSlots.{clash}

pub returns-in_err-slot : goal.returns-in_err-slot
returns-in_err-slot c v m catalog shows =
    let h = c.args.self.now in
    let n = c.args.number in
    let place = c.places_to-place.result in
    let first : c.deref.result.now ≡ h.order = search rules in
    let second : c.deref-2.result.now ≡ h.order = search rules in
    let is = subst (λ (order : List NumberedSlot). IsPlaceFor order n place) first
    (c.places_to-place.ensures.place (subst Rises (sym first) catalog.ordered.rises)) in
    let end = subst (λ (order : List NumberedSlot). length order ≤ place) second c.in_err-slot.ensures.lookup.3 in
    let none : option_copied c.from_residual.result ≡ None = ap option_copied c.from_residual.ensures in
    let empty = none_after catalog shows n place is end in
    subst (λ (o : Option (ℕ × Upload)). RepresentsOf m.indexes o (option_copied c.from_residual.result)) (sym empty)
    (subst (RepresentsOf m.indexes None) (sym none) tt)

pub returns-in_err-catalog : goal.returns-in_err-catalog
returns-in_err-catalog c v m catalog shows =
    let h = c.args.self.now in
    let n = c.args.number in
    let place = c.places_to-place.result in
    let entry = c.in_ok-slot.field-0.now in
    let first : c.deref.result.now ≡ h.order = search rules in
    let second : c.deref-2.result.now ≡ h.order = search rules in
    let is = rw first at (c.places_to-place.ensures.place (subst Rises (sym first) catalog.ordered.rises)) in
    let inside = subst (λ (order : List NumberedSlot). place < length order) second c.in_ok-slot.ensures.lookup.3.0 in
    let here = rw second at c.in_ok-slot.ensures.lookup.1 in
    let used = named catalog shows n place is entry.number entry.slot inside
    (sym (here ∙ get_or_default h.order place entry (numbered 0 0) inside)) in
    clash (sym c.in_err-catalog.ensures.slot) used.there

pub returns : goal.returns
returns c v m catalog shows =
    let h = c.args.self.now in
    let n = c.args.number in
    let place = c.places_to-place.result in
    let entry = c.in_ok-slot.field-0.now in
    let r = c.record.result.now in
    let first : c.deref.result.now ≡ h.order = search rules in
    let second : c.deref-2.result.now ≡ h.order = search rules in
    let is = rw first at (c.places_to-place.ensures.place (subst Rises (sym first) catalog.ordered.rises)) in
    let inside = subst (λ (order : List NumberedSlot). place < length order) second c.in_ok-slot.ensures.lookup.3.0 in
    let here = rw second at c.in_ok-slot.ensures.lookup.1 in
    let at = sym (here ∙ get_or_default h.order place entry (numbered 0 0) inside) in
    let used = named catalog shows n place is entry.number entry.slot inside at in
    let recorded = found catalog shows (sym c.in_ok-catalog.ensures.slot) used c.record.ensures.slot_record
    c.record.ensures.unpacked in
    let next = some_after catalog shows n place is entry.number entry.slot inside at recorded.0 recorded.1 in
    subst (λ (o : Option (ℕ × Upload)). RepresentsOf m.indexes o (Some r)) (sym next) recorded.2.represents
