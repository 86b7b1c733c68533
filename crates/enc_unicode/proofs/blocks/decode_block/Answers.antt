use Rattle.std.proofs.Common.{refl}
use Rattle.enc_feed.specs.Batches.{BatchTook, BatchRefused}
use Rattle.enc_feed.specs.BatchLaws.{batch_sink}
use Rattle.enc_feed.specs.declared.batch.Full.{Full}
use Rattle.lane_kernels.specs.Orders.{is_big}
use Rattle.enc_model.proofs.Calm.{utf16_calm}
use Rattle.enc_feed.proofs.Gathered.{room_left}
use Rattle.enc_feed.proofs.Parts.{read_begins, read_more}
use Rattle.enc_unicode.proofs.blocks.decode_block.Goals as goal

pub loop-at-init : goal.loop-at-init
loop-at-init c =
    read_begins {E = Full} BatchTook BatchRefused batch_sink _ (utf16_calm (is_big c.args.order)) c.args.block.now
    c.args.batch.now
    c.args.pairing.now

pub decode_some-at-requires-clause-room : goal.decode_some-at-requires-clause-room
decode_some-at-requires-clause-room c =
    let to = c.loop-at.invariant in
    room_left _ (utf16_calm (is_big c.args.order)) c.args.pairing.now c.args.block.now _ c.args.batch.now
    c.loop-at.batch c.loop-at.at to.at refl to.taken
    c.requires

pub loop-at-preserved : goal.loop-at-preserved
loop-at-preserved c =
    let e = c.decode_some-at.ensures in
    read_more {E = Full} BatchTook BatchRefused batch_sink _ (utf16_calm (is_big c.args.order)) c.args.block.now _
    c.args.batch.now
    c.loop-at.batch c.decode_some-at.new.batch c.args.pairing.now c.loop-at.pairing c.decode_some-at.new.pairing
    c.loop-at.at
    c.decode_some-at.result refl c.loop-at.invariant e.some.1 e.text e.state
