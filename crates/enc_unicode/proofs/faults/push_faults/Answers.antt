use Rattle.std.proofs.Common.{◌<◌, ◌-◌, refl, sym, take, drop, length, arith}
use Rattle.std.proofs.lemmas.Grind.{common_steps}
use Rattle.enc_model.specs.Utf8.{utf8, utf8_start}
use Rattle.enc_model.proofs.Calm.{utf8_calm}
use Rattle.enc_feed.proofs.Gathered.{room_left}
use Rattle.enc_unicode.proofs.FaultRuns.{fault_more, none_read, none_state}
use Rattle.enc_unicode.proofs.faults.push_faults.Goals as goal

pub loop-at-init : goal.loop-at-init
loop-at-init c = (
  none_read c.args.bytes.now c.args.batch.now,
  none_state c.args.bytes.now,
  omega arith,
  λ none. refl,
)

pub push-requires : goal.push-requires
push-requires c =
    let bytes = c.args.bytes.now in
    let at = c.loop-at.at in
    let room = room_left utf8 utf8_calm utf8_start bytes (take (length bytes - at) (drop at bytes)) c.args.batch.now
    c.loop-at.batch at c.loop-at.invariant.2 refl c.loop-at.invariant.0 c.requires in
    grind (arith, common_steps, room)

pub loop-at-preserved : goal.loop-at-preserved
loop-at-preserved c =
    let bytes = c.args.bytes.now in
    let at = c.loop-at.at in
    let inside : at < length bytes = grind (arith, common_steps) in
    let more = fault_more bytes at c.args.batch.now c.loop-at.batch c.push.new.self inside (sym
    c.if-begins_none.ensures)
    c.loop-at.invariant.1 c.loop-at.invariant.0 c.push.ensures in
    (more.0, more.1, omega (arith, inside), λ none. absurd (omega (arith, none)))
