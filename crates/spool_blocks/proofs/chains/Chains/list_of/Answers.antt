use Rattle.std.proofs.Common.{None, ◌∙◌, arith, length-set}
use Rattle.spool_blocks.proofs.Links.{was_read}
use Rattle.spool_blocks.proofs.Listed.{block_in, some_left, listed_on, all_listed, listed_whole}
use Rattle.spool_blocks.proofs.chains.Chains.list_of.Goals as goal

pub overflow_sub-at : goal.overflow_sub-at
overflow_sub-at c = some_left c.loop-next.invariant.listed c.in-Some.is

pub index_mut-requires : goal.index_mut-requires
index_mut-requires c =
    omega (arith, some_left c.loop-next.invariant.listed c.in-Some.is, c.loop-next.invariant.room)

pub index-requires-in-Some : goal.index-requires-in-Some
index-requires-in-Some c = let here = block_in c.loop-next.invariant.listed c.in-Some.is in omega (arith, here)

pub loop-next-smaller : goal.loop-next-smaller
loop-next-smaller c = omega (arith, some_left c.loop-next.invariant.listed c.in-Some.is)

pub loop-next-preserved : goal.loop-next-preserved
loop-next-preserved c =
    let listed = c.loop-next.invariant.listed in
    let read = was_read c.self.inside.below.items c.in-Some.block None _ c.index-in-Some.ensures
    (block_in listed c.in-Some.is) in
    record {
      size = length-set _ _ _ ∙ c.loop-next.invariant.size;
      room = grind (arith, length-set, c.loop-next.invariant.room);
      listed = rw c.block-next.ensures (listed_on listed c.in-Some.is _ read c.loop-next.invariant.room);
    }

pub returns-clause-ordered : goal.returns-clause-ordered
returns-clause-ordered c =
    rw c.self.view_is at (all_listed c.loop-next.invariant.listed c.in_default.is c.requires c.self.invariant.few)

pub returns-clause-listed : goal.returns-clause-listed
returns-clause-listed c i lt whole =
    listed_whole (rw c.self.view_is at c.loop-next.invariant.size) (returns-clause-ordered c) whole i lt
