use Rattle.std.proofs.Common.{◌-◌, length}
use Rattle.enc_feed.proofs.Parts.{ReadTo}
use Rattle.enc_feed.proofs.by_blocks.give_prefixes.Given as goal

abbrev pub invariant-loop-at : goal.invariant-loop-at
invariant-loop-at g l =
    ReadTo g.S.Sink.takes (g.D.Decoder.handler l.tables) l.piece l.fn.sink l.state l.at l.sink l.state

abbrev pub decreases-loop-at : goal.decreases-loop-at
decreases-loop-at g l = length l.piece - l.at
