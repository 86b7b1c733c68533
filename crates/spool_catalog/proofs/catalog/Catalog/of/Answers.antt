use Rattle.std.proofs.Common.{rules, ◌≡◌, ◌<◌, ◌∙◌, Option, None, Some, List, get_or, ap, subst, arith}
use Rattle.common.specs.declared.limits.TheConstants.{SLOTS}
use Rattle.spool_pages.specs.View.{SlotRecord}
use Rattle.spool_catalog.specs.Holding.{OwnsText}
use Rattle.spool_catalog.proofs.slots.HasViews.{fits_with, has_view}
use Rattle.spool_catalog.proofs.Valid.{slots_distinct, in_use}
use Rattle.spool_catalog.proofs.numbers.Ordered.{orders_distinct}
use Rattle.spool_catalog.proofs.catalog.Catalog.of.Goals as goal

pub returns-in_err-order-clause-decoded : goal.returns-in_err-order-clause-decoded
returns-in_err-order-clause-decoded c v valid blocks version next indexes slots rows reserved =
    let first : c.deref.result.now ≡ v.slots = search rules in
    let recorded = c.order_of.ensures.distinct (slots_distinct v valid c.deref.result.now first) in
    search rules

pub returns-clause-decoded : goal.returns-clause-decoded
returns-clause-decoded c v valid blocks version next indexes slots rows reserved =
    let first : c.deref.result.now ≡ c.args.slots.items = search rules in
    let second : c.deref-2.result.now ≡ c.args.slots.items = search rules in
    has_view _ v
    (fits_with _ c.deref.result.now c.deref-2.result.now first second c.requires.slots c.in_ok-lists.ensures.long
    c.requires.rows c.requires.fits c.requires.below c.in_ok-order.ensures.orders c.in_ok-lists.ensures.lists)
    valid blocks version next indexes slots rows reserved

pub returns-clause-distinct : goal.returns-clause-distinct
returns-clause-distinct c =
    let same : c.deref.result.now ≡ c.args.slots.items = search rules in
    orders_distinct c.args.slots.items c.in_ok-order.order.items c.requires.slots
    (rw same at c.in_ok-order.ensures.orders)

pub returns-clause-whole : goal.returns-clause-whole
returns-clause-whole c s r here =
    let same : c.deref-2.result.now ≡ c.args.slots.items = search rules in
    let lt : s < SLOTS = omega (arith, in_use c.args.slots.items s r here, c.requires.slots) in
    let there : get_or c.deref-2.result.now s None ≡ Some r =
    ap (λ (xs : List (Option SlotRecord)). get_or xs s None) same ∙ here in
    subst (λ (o : Option SlotRecord). OwnsText c.args.blocks.rows s o) there (c.in_ok-lists.ensures.whole s lt)
