use Rattle.std.proofs.Common.{◌≡◌, false, take}
use Rattle.enc_feed.specs.Batches.{BatchTook}
use Rattle.enc_model.specs.Stream.{steps}
use Rattle.enc_model.specs.Utf16.{utf16}
use Rattle.lane_kernels.specs.Orders.{is_big}
use Rattle.enc_unicode.proofs.blocks.decode_each.Given as goal

abbrev pub invariant-loop-byte : goal.invariant-loop-byte
invariant-loop-byte l =
    let so_far = steps (utf16 (is_big l.order)) false l.fn.pairing (take l.byte-index l.bytes) in
    BatchTook l.fn.batch so_far.text l.batch × (l.pairing ≡ so_far.state)
