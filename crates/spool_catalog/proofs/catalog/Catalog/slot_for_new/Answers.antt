use Rattle.std.proofs.Common.{rules, ◌≡◌, inl, inr, length, ap, subst, arith}
use Rattle.spool_catalog.specs.Holding.{Holding, FitsTogether}
use Rattle.spool_catalog.proofs.slots.SlotCounts.{not_more, room_at, few_at}
use Rattle.spool_catalog.proofs.catalog.Catalog.slot_for_new.Goals as goal
use Rattle.spool_catalog.proofs.catalog.Catalog.slot_for_new.Goals.{then-len-via-then-len}
use Rattle.spool_catalog.proofs.catalog.Catalog.slot_for_new.Goals.{then-len-via-else-len+then-self-ge-NUMBERS_END}

pub returns-then-len-clause-few : goal.returns-then-len-clause-few
returns-then-len-clause-few c v m catalog shows =
    let h = c.args.self.now in
    elim c.then-len.branch [
      | then-len-via-then-len w ↦
          let few = ap (λ (k : Holding). length k.order) c.self.view_is in
          inl (omega (arith, w.if-len.true, c.len.ensures, few, not_more catalog shows))
      | then-len-via-else-len+then-self-ge-NUMBERS_END w ↦
          let next = ap (λ (k : Holding). k.next) c.self.view_is in
          inr (omega (arith, w.if-self-ge-NUMBERS_END.true, next, catalog.next, shows.next))
    ]

pub returns-clause-room : goal.returns-clause-room
returns-clause-room c =
    let h = c.args.self.now in
    let fits = subst FitsTogether c.self.view_is c.self.invariant in
    let same : c.deref.result.now ≡ h.slots = search rules in
    let next = ap (λ (k : Holding). k.next) c.self.view_is in
    room_at h c.deref.result.now fits same (omega (arith, c.if-self-ge-NUMBERS_END.false, next)) _
    c.free_slot.result c.free_slot.ensures

pub returns-clause-few : goal.returns-clause-few
returns-clause-few c v m catalog shows =
    let h = c.args.self.now in
    let fits = subst FitsTogether c.self.view_is c.self.invariant in
    let same : c.deref.result.now ≡ h.slots = search rules in
    let few = ap (λ (k : Holding). length k.order) c.self.view_is in
    few_at h c.deref.result.now fits same (omega (arith, c.if-len.false, c.len.ensures, few)) catalog shows _
    c.free_slot.result c.free_slot.ensures
