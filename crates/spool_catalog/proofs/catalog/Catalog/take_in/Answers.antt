use Rattle.std.proofs.Common.{◌∙◌, ◌+◌, Some, slice_set, ap, subst, sym}
use Rattle.spool_catalog.specs.TakenIn.{HasRoomAt}
use Rattle.spool_catalog.specs.Holding.{Holding, IsAdded, held_of}
use Rattle.spool_catalog.proofs.slots.TakenIn.{next_free, taken_fits}
use Rattle.spool_catalog.proofs.catalog.Catalog.take_in.Goals as goal

abbrev IsPut : Holding → (c : goal.After-self-2-1) → Type 0
IsPut h c = IsAdded h.order h.next c.args.slot c.put.new.order.items

added : (c : goal.After-self-2-1) → IsPut (held_of c.self.inside) c
added c = c.in_ok-put.ensures.added c.self.invariant.ordered.rises (next_free (held_of c.self.inside) c.self.invariant)

pub invariant_of-self-2 : goal.invariant_of-self-2
invariant_of-self-2 c =
    let room = subst (λ (h : Holding). HasRoomAt h c.args.slot) (sym c.self.view_is) c.requires.room in
    let number = c.requires.number ∙ ap (λ (h : Holding). h.next) (sym c.self.view_is) in
    taken_fits (held_of c.self.inside) c.args.slot c.args.record c.self.invariant room number c.requires.no_text
    c.put.new.order.items (added c)

pub returns-clause-taken : goal.returns-clause-taken
returns-clause-taken c =
    let is = c.self.view_is in
    record {
      layout = ap (λ (k : Holding). k.layout) is;
      version = ap (λ (k : Holding). k.version) is;
      next = ap (λ (k : Holding). k.next + 1) is;
      indexes = ap (λ (k : Holding). k.indexes) is;
      slots = ap (λ (k : Holding). slice_set k.slots c.args.slot (Some c.args.record)) is;
      order = subst (λ (k : Holding). IsPut k c) is (added c);
      lists = ap (λ (k : Holding). k.lists) is;
      blocks = ap (λ (k : Holding). k.blocks) is;
      fits = invariant_of-self-2 c;
    }
