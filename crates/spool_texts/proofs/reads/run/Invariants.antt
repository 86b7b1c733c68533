use Rattle.std.proofs.Common.{◌-◌, ◌≤◌, ◌+◌, length}
use Rattle.spool_texts.specs.Reading.{Follow}
use Rattle.spool_texts.proofs.reads.run.Given as goal

abbrev pub invariant-loop-count : goal.invariant-loop-count
invariant-loop-count l = record {
  some : 1 ≤ l.count;
  few : l.count ≤ l.most;
  within : l.at + l.count ≤ length l.list;
  follow : Follow l.list l.at l.count;
}

abbrev pub decreases-loop-count : goal.decreases-loop-count
decreases-loop-count l = l.most - l.count
