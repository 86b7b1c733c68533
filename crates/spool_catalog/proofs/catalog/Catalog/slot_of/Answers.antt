use Rattle.std.proofs.Common.{rules, ◌≡◌, ℕ, List, Option, MatchOption, subst}
use Rattle.spool_catalog.specs.declared.order.NumberedSlot.{NumberedSlot}
use Rattle.spool_catalog.specs.Holding.{FitsTogether, IsListedAt, Rises}
use Rattle.spool_catalog.proofs.Answered.{used_of}
use Rattle.spool_catalog.proofs.Answered.{only_of}
use Rattle.spool_catalog.proofs.catalog.Catalog.slot_of.Goals as goal

abbrev IsFound : Option ℕ → List NumberedSlot → ℕ → Type 0
IsFound found order n = MatchOption found ((s : ℕ) → IsListedAt order n s → ⊥) (IsListedAt order n)

is_found : (c : goal.After-slot_of) → IsFound c.slot_of.result c.args.self.now.order c.args.number
is_found c =
    let fits = subst FitsTogether c.self.view_is c.self.invariant in
    let same : c.args.self.now.order ≡ c.deref.result.now = search rules in
    rw (← same) at (c.slot_of.ensures (subst Rises same fits.ordered.rises))

pub returns-clause-used : goal.returns-clause-used
returns-clause-used c =
    used_of c.args.self.now (subst FitsTogether c.self.view_is c.self.invariant) c.args.number c.slot_of.result
    (is_found c)

pub returns-clause-only : goal.returns-clause-only
returns-clause-only c =
    only_of c.args.self.now (subst FitsTogether c.self.view_is c.self.invariant) c.args.number c.slot_of.result
    (is_found c)
