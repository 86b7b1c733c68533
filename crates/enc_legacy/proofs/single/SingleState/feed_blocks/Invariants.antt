use Rattle.std.proofs.Common.{◌≤◌, ◌-◌, false, take, length}
use Rattle.enc_model.specs.Indexes.{tables}
use Rattle.enc_model.specs.Stream.{steps}
use Rattle.enc_legacy.specs.Singles.{single_in}
use Rattle.enc_legacy.proofs.single.SingleState.feed_blocks.Given as goal

abbrev pub invariant-loop-at : goal.invariant-loop-at
invariant-loop-at g l = record {
  taken : g.S.Sink.takes l.fn.sink (steps (single_in (tables l.indexes)) false l.self (take l.at l.piece)).text l.sink;
  at : l.at ≤ length l.piece;
}

abbrev pub decreases-loop-at : goal.decreases-loop-at
decreases-loop-at g l = length l.piece - l.at
