use Rattle.std.proofs.Common.{◌≡◌, ◌≤◌, length}
use Rattle.spool_blocks.specs.Blocks.{slot_count}
use Rattle.spool_blocks.proofs.Listed.{ListedFrom}
use Rattle.spool_blocks.proofs.chains.Chains.list_of.Given as goal

abbrev pub invariant-loop-next : goal.invariant-loop-next
invariant-loop-next l = record {
  size : length l.list.items ≡ slot_count l.fn.slot l.self-inside.rows.items;
  room : l.at ≤ length l.list.items;
  listed : ListedFrom l.self-inside.rows.items l.self-inside.below.items l.fn.slot l.next l.at l.list.items;
}

abbrev pub decreases-loop-next : goal.decreases-loop-next
decreases-loop-next l = l.at
