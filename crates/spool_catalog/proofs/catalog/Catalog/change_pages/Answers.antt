use Rattle.std.proofs.Common.{rules, ◌≡◌, ◌∙◌, List, Option, None, length, get_or, IfOk, option_copied, sym, ap, subst}
use Rattle.spool_pages.specs.Changes.{SameRowsBut, ChangesButRows, with_record, neighbour}
use Rattle.spool_pages.specs.View.{SlotRecord, slot_at}
use Rattle.spool_catalog.specs.Longer.{longer_record}
use Rattle.spool_catalog.specs.Holding.{Holding, FitsTogether}
use Rattle.spool_catalog.proofs.catalog.Catalog.change_pages.Goals as goal

pub pages_of_change-requires-clause-blocks : goal.pages_of_change-requires-clause-blocks
pages_of_change-requires-clause-blocks c =
    rw (c.deref.ensures.value, ap (λ (k : Holding). k.layout) c.self.view_is)
    (c.in_ok-blocks.ensures.below c.requires.may.used c.requires.may.there)

pub returns-clause-changes : goal.returns-clause-changes
returns-clause-changes c v blocks version slots r there rows none some =
    let slot = c.args.longer.now.slot in
    let fits = subst FitsTogether c.self.view_is c.self.invariant in
    let same : SameRowsBut c.deref.result.now v.rows rows =
    rw c.deref.ensures.value (c.in_ok-blocks.ensures.differ r there v.rows rows none some) in
    let beside : slot_at v (neighbour slot) ≡ option_copied c.as_ref.result =
    ap (λ (xs : List (Option SlotRecord)). get_or xs (neighbour slot) None) slots ∙ sym c.beside-beside.ensures.slot
    ∙ sym c.as_ref.ensures.value in
    let recorded = c.pages_of_change.ensures.changes v (blocks ∙ sym (ap (λ (k : Holding). k.layout) c.self.view_is))
    (version ∙ sym (ap (λ (k : Holding). k.version) c.self.view_is))
    (ap (λ (xs : List (Option SlotRecord)). length xs) slots ∙ fits.slot_count) beside rows same in
    let slot_used : c.unwrap-slot_used.result.now ≡ r = search rules in
    subst (λ (q : SlotRecord). IfOk c.pages_of_change.result (λ pages. ChangesButRows pages v
    (record (with_record v slot (longer_record q c.args.longer.now)) { rows = rows })))
    (c.next.view_is ∙ c.slot_record.ensures.slot_record ∙ slot_used) recorded
