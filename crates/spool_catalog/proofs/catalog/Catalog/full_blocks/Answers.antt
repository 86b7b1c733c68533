use Rattle.std.proofs.Common.{rules, ap, arith, subst}
use Rattle.spool_pages.specs.View.{SlotRecord}
use Rattle.spool_catalog.specs.Holding.{FitsTogether}
use Rattle.spool_catalog.proofs.slots.LongerInCatalog.{full_few, low}
use Rattle.spool_catalog.proofs.catalog.Catalog.full_blocks.Goals as goal

pub overflow_cast-result : goal.overflow_cast-result
overflow_cast-result c =
    let fits = subst FitsTogether c.self.view_is c.self.invariant in
    let few = full_few c.args.self.now fits c.args.slot c.unwrap-slot_used.result.now (search rules) (search rules) in
    omega (arith, ap (λ (r : SlotRecord). r.text_len) c.record.ensures.slot_record, few)

pub returns-clause-listed : goal.returns-clause-listed
returns-clause-listed c =
    let fits = subst FitsTogether c.self.view_is c.self.invariant in
    let listed = low c.args.self.now fits c.args.slot c.unwrap-slot_used.result.now (search rules) in
    omega (arith, ap (λ (r : SlotRecord). r.text_len) c.record.ensures.slot_record, listed)
