use Rattle.spool_blocks.specs.Sets.{NoneWithin}
use Rattle.spool_blocks.proofs.free_set.lowest_within.Given as goal

abbrev pub invariant-loop-i : goal.invariant-loop-i
invariant-loop-i l = record { past : NoneWithin l.flags l.start l.i }
