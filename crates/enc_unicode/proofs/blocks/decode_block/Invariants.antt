use Rattle.std.proofs.Common.{◌-◌, length}
use Rattle.enc_model.specs.Utf16.{utf16}
use Rattle.enc_feed.specs.Batches.{BatchTook}
use Rattle.lane_kernels.specs.Orders.{is_big}
use Rattle.enc_feed.proofs.Parts.{ReadTo}
use Rattle.enc_unicode.proofs.blocks.decode_block.Given as goal

abbrev pub invariant-loop-at : goal.invariant-loop-at
invariant-loop-at l = ReadTo BatchTook (utf16 (is_big l.order)) l.block l.fn.batch l.fn.pairing l.at l.batch l.pairing

abbrev pub decreases-loop-at : goal.decreases-loop-at
decreases-loop-at l = length l.block - l.at
