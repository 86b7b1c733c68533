use Rattle.std.proofs.Common.{◌-◌, length}
use Rattle.enc_model.specs.Utf8.{utf8}
use Rattle.enc_feed.specs.Batches.{BatchTook}
use Rattle.enc_feed.proofs.Parts.{ReadTo}
use Rattle.enc_unicode.proofs.utf8.Utf8State.decode_block.Given as goal

abbrev pub invariant-loop-at : goal.invariant-loop-at
invariant-loop-at l = ReadTo BatchTook utf8 l.block l.fn.batch l.fn.self l.at l.batch l.self

abbrev pub decreases-loop-at : goal.decreases-loop-at
decreases-loop-at l = length l.block - l.at
