use Rattle.std.proofs.Common.{◌*◌}
use Rattle.spool_blocks.specs.Sets.{Covers, NoneWithin}
use Rattle.spool_blocks.proofs.free_set.lowest_in.Given as goal

abbrev pub invariant-loop-group : goal.invariant-loop-group
invariant-loop-group l = record {
  covers : Covers l.flags l.groups;
  past : NoneWithin l.flags 0 (l.group * 256);
}
