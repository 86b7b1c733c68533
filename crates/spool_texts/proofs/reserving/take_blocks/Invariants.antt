use Rattle.std.proofs.Common.{◌≤◌, ◌-◌, length, vec_capacity}
use Rattle.common.specs.declared.limits.TheConstants.{MOST_BLOCKS}
use Rattle.spool_texts.specs.Drafts.{IsReserved, Takes}
use Rattle.spool_texts.proofs.reserving.take_blocks.Given as goal

abbrev pub invariant-loop-list : goal.invariant-loop-list
invariant-loop-list l = record {
  space : l.count ≤ vec_capacity l.list;
  few : length l.list.items ≤ MOST_BLOCKS;
  within : length l.list.items ≤ l.count;
  takes : Takes l.fn.blocks l.blocks l.fn.list.items l.list.items;
  reserved : IsReserved l.blocks l.list.items;
}

abbrev pub decreases-loop-list : goal.decreases-loop-list
decreases-loop-list l = l.count - length l.list.items
