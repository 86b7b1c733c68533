use Rattle.std.proofs.Common.{None, arith}
use Rattle.spool_blocks.proofs.Links.{was_read, pushed, few_counted, top_few}
use Rattle.spool_blocks.proofs.chains.Chains.push.Goals as goal

pub overflow_add-index_mut : goal.overflow_add-index_mut
overflow_add-index_mut c =
    let few = few_counted c.self.invariant c.args.slot c.requires.slot c.index_mut-3.ensures.value in omega arith

pub invariant_of-self : goal.invariant_of-self
invariant_of-self c =
    rw c.to.ensures (pushed c.self.invariant c.self.view_is c.args.slot c.args.block c.args.ordinal _ _
    c.requires.below c.requires.free c.requires.slot c.requires.above
    (was_read c.self.inside.tops.items c.args.slot None _ c.index.ensures (omega arith))
    (was_read c.self.inside.counts.items c.args.slot 0 _ c.index_mut-3.ensures.value (omega arith)))

pub to-requires : goal.to-requires
to-requires c = top_few c.self.invariant c.args.slot _ c.requires.slot c.index.ensures
