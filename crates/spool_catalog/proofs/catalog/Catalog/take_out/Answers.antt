use Rattle.std.proofs.Common.{ℕ, List, None, slice_set, sym, subst}
use Rattle.spool_catalog.specs.Holding.{Holding, FitsTogether, IsUsedBy, IsListedAt}
use Rattle.spool_catalog.specs.contracts.catalog.Catalog.{the_view}
use Rattle.spool_catalog.proofs.slots.TakenOut.{fits_without, slot_below}
use Rattle.spool_catalog.proofs.catalog.Catalog.take_out.Goals as goal

pub take_number-requires-clause-listed : goal.take_number-requires-clause-listed
take_number-requires-clause-listed c =
    let h = the_view c.self.inside in
    let slot = c.args.slot in
    let used = subst (λ (k : Holding). IsUsedBy k.slots slot c.args.number) (sym c.self.view_is) c.requires.used in
    let few = slot_below h slot c.args.number c.self.invariant used in (
      slot,
      subst (λ (n : ℕ). IsListedAt h.order n slot) used.is
          (c.self.invariant.ordered.all slot used.used few used.there),
    )

pub invariant_of-self : goal.invariant_of-self
invariant_of-self c =
    let h = the_view c.self.inside in
    let slot = c.args.slot in
    let used = subst (λ (k : Holding). IsUsedBy k.slots slot c.args.number) (sym c.self.view_is) c.requires.used in
    subst (λ (list : List ℕ). FitsTogether (record h {
      slots = slice_set h.slots slot None;
      order = c.take_number.new.order.items;
      lists = slice_set h.lists slot list;
      blocks = c.disown.new.self;
    })) (sym c.clear.ensures)
    (fits_without h slot c.args.number c.self.invariant used c.take_number.new.order.items c.disown.new.self
    c.take_number.ensures
    (record { size = c.disown.ensures.size; freed = c.disown.ensures.freed; preserved = c.disown.ensures.unchanged }))
