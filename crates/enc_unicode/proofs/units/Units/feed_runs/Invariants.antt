use Rattle.std.proofs.Common.{◌-◌, length}
use Rattle.enc_model.specs.Utf16.{utf16}
use Rattle.lane_kernels.specs.Orders.{is_big}
use Rattle.enc_feed.proofs.Parts.{ReadTo}
use Rattle.enc_unicode.proofs.units.Units.feed_runs.Given as goal

abbrev pub invariant-loop-at : goal.invariant-loop-at
invariant-loop-at g l = ReadTo g.S.Sink.takes (utf16 (is_big l.order)) l.piece l.fn.sink l.fn.self l.at l.sink l.self

abbrev pub decreases-loop-at : goal.decreases-loop-at
decreases-loop-at g l = length l.piece - l.at
