use Rattle.std.proofs.Common.{ℕ, Result, Ok, ◌-◌, ◌≤◌, ◌≡◌, ap, sym, subst, refl, length, take, drop, arith}
use Rattle.std.proofs.Common.{length-drop, ◌∙◌}
use Rattle.std.proofs.lemmas.List.{take_rest}
use Rattle.enc_feed.specs.Batches.{BatchTook, BatchRefused}
use Rattle.enc_feed.specs.BatchLaws.{batch_sink}
use Rattle.enc_model.specs.Stream.{DecoderRun}
use Rattle.enc_model.specs.Utf16.{Utf16, utf16}
use Rattle.enc_feed.specs.declared.batch.Full.{Full}
use Rattle.enc_model.proofs.Calm.{utf16_calm}
use Rattle.enc_model.proofs.Steps.{steps_none}
use Rattle.enc_feed.proofs.Feeding.{feed_begins, feed_byte, state_byte}
use Rattle.enc_feed.proofs.Gathered.{room_left}
use Rattle.lane_kernels.specs.Orders.{is_big}
use Rattle.enc_unicode.proofs.blocks.decode_each.Goals as goal

pub loop-byte-init : goal.loop-byte-init
loop-byte-init c = (
  feed_begins {E = Full} BatchTook BatchRefused batch_sink (utf16 (is_big c.args.order))
      (utf16_calm (is_big c.args.order)) c.args.pairing.now c.args.batch.now,
  ap (λ (run : DecoderRun Utf16). run.state) (sym (steps_none (utf16 (is_big c.args.order)) c.args.pairing.now)),
)

pub push_step-requires : goal.push_step-requires
push_step-requires c =
    let bytes = c.args.bytes.now in
    let i = c.loop-byte.byte-index in
    let l = c.loop-byte-test.true in
    let within : i ≤ length bytes = omega (arith, l) in
    let rest = take (length bytes - i) (drop i bytes) in
    let room = room_left (utf16 (is_big c.args.order)) (utf16_calm (is_big c.args.order)) c.args.pairing.now bytes rest
    c.args.batch.now c.loop-byte.batch i
    within refl c.loop-byte.invariant.0 c.requires in
    let r : length rest ≡ length bytes - i = ap length (take_rest bytes i) ∙ length-drop i bytes in
    omega (arith, l, r, room)

pub loop-byte-preserved : goal.loop-byte-preserved
loop-byte-preserved c =
    let h = utf16 (is_big c.args.order) in
    let calm = utf16_calm (is_big c.args.order) in
    let bytes = c.args.bytes.now in
    let i = c.loop-byte.byte-index in
    let one = c.tail.ensures in
    let taken : Result ℕ Full = Ok 0 in (
      feed_byte {E = Full} BatchTook BatchRefused batch_sink h calm c.args.pairing.now c.loop-byte.pairing bytes i
          c.args.batch.now c.loop-byte.batch c.push_step.new.batch
          taken c.loop-byte-test.true c.loop-byte.invariant.1 c.loop-byte.invariant.0
          (subst (λ z. BatchTook c.loop-byte.batch z c.push_step.new.batch) one.text c.push_step.ensures),
      state_byte h calm c.args.pairing.now c.loop-byte.pairing c.tail.new.self bytes i c.loop-byte-test.true
          c.loop-byte.invariant.1 one.state,
    )
