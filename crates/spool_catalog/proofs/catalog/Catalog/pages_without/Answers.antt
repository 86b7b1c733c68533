use Rattle.std.proofs.Common.{◌≡◌, ◌∙◌, List, Option, None, length, get_or, option_copied, sym, ap}
use Rattle.spool_pages.specs.Changes.{neighbour}
use Rattle.spool_pages.specs.View.{SlotRecord, slot_at}
use Rattle.spool_catalog.specs.Holding.{Holding}
use Rattle.spool_catalog.proofs.slots.TakenOut.{listed_below}
use Rattle.spool_catalog.proofs.catalog.Catalog.pages_without.Goals as goal

pub pages_of_change-requires-clause-blocks : goal.pages_of_change-requires-clause-blocks
pages_of_change-requires-clause-blocks c =
    rw (c.list-list.ensures.blocks, ap (λ (k : Holding). k.layout) c.self.view_is)
    (listed_below c.args.self.now c.args.slot c.requires.used.0 c.list-list.ensures.fits c.requires.used.1)

pub returns-clause-changes : goal.returns-clause-changes
returns-clause-changes c v blocks version slots rows same =
    let beside : slot_at v (neighbour c.args.slot) ≡ option_copied c.as_ref.result =
    ap (λ (xs : List (Option SlotRecord)). get_or xs (neighbour c.args.slot) None) slots
    ∙ sym c.beside-beside.ensures.slot ∙ sym c.as_ref.ensures.value in
    c.pages_of_change.ensures.changes v (blocks ∙ sym (ap (λ (k : Holding). k.layout) c.self.view_is))
    (version ∙ sym (ap (λ (k : Holding). k.version) c.self.view_is))
    (ap (λ (xs : List (Option SlotRecord)). length xs) slots ∙ c.list-list.ensures.fits.slot_count) beside rows
    (rw c.list-list.ensures.blocks same)
