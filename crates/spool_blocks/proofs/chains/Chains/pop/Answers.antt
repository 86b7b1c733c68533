use Rattle.std.proofs.Common.{None, arith}
use Rattle.spool_blocks.proofs.Links.{was_read, popped, all_lower, some_counted, read_top, read_ordinal}
use Rattle.spool_blocks.proofs.chains.Chains.pop.Goals as goal

pub returns-in_err-block-clause-none : goal.returns-in_err-block-clause-none
returns-in_err-block-clause-none c e =
    let here = was_read c.self.inside.tops.items c.args.slot None _ c.index.ensures in
    all_lower c.self.invariant c.args.slot _ c.self.view_is c.args.first (λ t k is own. absurd (grind arith))

pub index-requires-2 : goal.index-requires-2
index-requires-2 c =
    let top = read_top c.self.invariant c.args.slot c.requires c.index.ensures c.in_ok-block.was in omega arith

pub returns-in_err-ordinal-clause-none : goal.returns-in_err-ordinal-clause-none
returns-in_err-ordinal-clause-none c =
    let top = read_top c.self.invariant c.args.slot c.requires c.index.ensures c.in_ok-block.was in
    let row = read_ordinal c.self.invariant c.args.slot top c.index-2.ensures in
    absurd (grind arith)

pub returns-then-ordinal-first-clause-none : goal.returns-then-ordinal-first-clause-none
returns-then-ordinal-first-clause-none c e =
    let top = read_top c.self.invariant c.args.slot c.requires c.index.ensures c.in_ok-block.was in
    let row = read_ordinal c.self.invariant c.args.slot top c.index-2.ensures in
    all_lower c.self.invariant c.args.slot _ c.self.view_is c.args.first (λ t k is own. grind arith)

pub index-requires-3 : goal.index-requires-3
index-requires-3 c =
    let top = read_top c.self.invariant c.args.slot c.requires c.index.ensures c.in_ok-block.was in omega arith

pub overflow_sub-index_mut : goal.overflow_sub-index_mut
overflow_sub-index_mut c =
    let top = read_top c.self.invariant c.args.slot c.requires c.index.ensures c.in_ok-block.was in
    some_counted c.self.invariant c.args.slot _ _ _ top.owned c.index_mut-2.ensures.value

pub index_mut-requires-3 : goal.index_mut-requires-3
index_mut-requires-3 c =
    let top = read_top c.self.invariant c.args.slot c.requires c.index.ensures c.in_ok-block.was in omega arith

pub invariant_of-self : goal.invariant_of-self
invariant_of-self c =
    let top = read_top c.self.invariant c.args.slot c.requires c.index.ensures c.in_ok-block.was in
    rw c.block.ensures (popped c.self.invariant c.args.slot c.in_ok-block.block top.ordinal _ _ top.is top.owned
    (was_read c.self.inside.below.items c.in_ok-block.block None _ c.index-3.ensures (omega arith))
    (was_read c.self.inside.counts.items c.args.slot 0 _ c.index_mut-2.ensures.value (omega arith)))

pub returns-clause-some : goal.returns-clause-some
returns-clause-some c =
    let top = read_top c.self.invariant c.args.slot c.requires c.index.ensures c.in_ok-block.was in
    let row = read_ordinal c.self.invariant c.args.slot top c.index-2.ensures in
    record {
      ordinal = c.in_ok-ordinal.ordinal;
      from = c.if-ordinal-first.false;
      owned = grind (arith, top.owned);
      is = cc;
    }
