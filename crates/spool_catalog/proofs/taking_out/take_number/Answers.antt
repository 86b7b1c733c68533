use Rattle.std.proofs.Common.{rules, ◌≡◌, ◌-◌, ◌≤◌, ℕ, List, subst, arith}
use Rattle.std.specs.List.{remove}
use Rattle.spool_catalog.specs.declared.order.NumberedSlot.{NumberedSlot}
use Rattle.spool_catalog.specs.Holding.{IsPlaceFor, IsListedAt, Rises}
use Rattle.spool_catalog.specs.TakenOut.{IsWithout}
use Rattle.spool_catalog.proofs.numbers.Ordered.{listed_before, no_place}
use Rattle.spool_catalog.proofs.numbers.Unlisted.{without_number}
use Rattle.spool_catalog.proofs.taking_out.take_number.Goals as goal
use Rattle.spool_catalog.proofs.taking_out.take_number.Goals.{After-places_to-place}

-- the numbers up to it end after a place
some_place : (order : List NumberedSlot) (n place : ℕ) → Rises order → IsPlaceFor order n place
    → (s : ℕ) × IsListedAt order n s → 1 ≤ place
some_place order n place rises is listed =
    let not = no_place order n place rises is listed.0 listed.1 in
    omega (arith, not)

taken : (order : List NumberedSlot) (n place : ℕ) → Rises order → IsPlaceFor order n place
    → (s : ℕ) × IsListedAt order n s → IsWithout order n (remove order (place - 1))
taken order n place rises is listed =
    let some = some_place order n place rises is listed in
    without_number order (place - 1) n rises (omega (arith, some, is.within))
    (listed_before order n place rises is listed.0 (place - 1) listed.1 (omega (arith, some)))

-- the place, as the call gave it for the slice
place_is : (c : After-places_to-place) → IsPlaceFor c.args.order.now.items c.args.number c.places_to-place.result
place_is c =
    let order = c.args.order.now.items in
    let same : order ≡ c.deref.result.now = search rules in
    rw (← same) at (c.places_to-place.ensures.place (subst Rises same c.requires.rises))

pub overflow_sub-place : goal.overflow_sub-place
overflow_sub-place c =
    some_place c.args.order.now.items c.args.number c.places_to-place.result c.requires.rises
    (place_is (goal.at.overflow_sub-place c).After-places_to-place) c.requires.listed

pub returns : goal.returns
returns c =
    let order = c.args.order.now.items in
    rw (← c.remove.ensures.items) at (taken order c.args.number c.places_to-place.result c.requires.rises
    (place_is (goal.at.returns c).After-places_to-place) c.requires.listed)
