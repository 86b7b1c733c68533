use Rattle.std.proofs.Common.{◌<◌, ◌+◌, ◌∙◌, arith, length}
use Rattle.std.proofs.lemmas.List.{length-set}
use Rattle.enc_encode.proofs.Puts.{ascii_byte, put_byte}
use Rattle.enc_encode.proofs.single_runs.put_each.Goals as goal

pub loop-at-preserved : goal.loop-at-preserved
loop-at-preserved c =
    let v = c.loop-at.invariant in
    let inside : c.loop-at.at < length c.args.bytes.now = omega (arith, c.loop-at-test.true, c.min-most.ensures) in
    let room : c.args.from + c.loop-at.at < 2048 = omega (arith, c.loop-at-test.true, c.min-most.ensures) in (
      omega (arith, inside),
      omega (arith, room),
      length-set _ _ _ ∙ v.2,
      ascii_byte c.args.bytes.now c.loop-at.at inside v.3
          (let low = c.if-bytes-at-lt128.true in omega (arith, low)),
      put_byte c.args.held.now c.loop-at.held c.args.bytes.now c.args.from c.loop-at.at inside
          (let long = v.2 in omega (arith, room, long)) v.4,
    )
