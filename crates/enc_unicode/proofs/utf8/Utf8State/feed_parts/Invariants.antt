use Rattle.std.proofs.Common.{◌-◌, length}
use Rattle.enc_model.specs.Utf8.{utf8}
use Rattle.enc_feed.proofs.Parts.{ReadTo}
use Rattle.enc_unicode.proofs.utf8.Utf8State.feed_parts.Given as goal

abbrev pub invariant-loop-at : goal.invariant-loop-at
invariant-loop-at g l = ReadTo g.S.Sink.takes utf8 l.piece l.fn.sink l.fn.self l.at l.sink l.self

abbrev pub decreases-loop-at : goal.decreases-loop-at
decreases-loop-at g l = length l.piece - l.at
