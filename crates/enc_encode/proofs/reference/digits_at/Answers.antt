use Rattle.std.proofs.Common.{◌-◌, ◌∙◌, arith, replicate}
use Rattle.std.proofs.lemmas.List.{length-set}
use Rattle.enc_encode.proofs.Digits.{fewer, digit_more, digit_last}
use Rattle.enc_encode.proofs.reference.digits_at.Goals as goal

pub loop-left-preserved : goal.loop-left-preserved
loop-left-preserved c =
    let v = c.loop-left.invariant in
    let place = c.loop-left.place in
    let left = c.loop-left.left in
    let bytes = c.loop-left.bytes in
    let test = c.loop-left-test.true in
    let fits = c.loop-left.auto.left-fits in
    let inside = v.0 in
    let within = v.1 in
    let long = v.2 in
    let f = fewer place left inside test v.3 in
    let more = f.0 in (
      omega (arith, more),
      omega (arith, within),
      length-set bytes (place - 1) _ ∙ long,
      f.1,
      digit_more c.args.number left place bytes (replicate 17 0x3B) (omega (arith, inside))
          (omega (arith, within, long)) test (omega (arith, fits)) v.4,
    )

pub returns-clause-digits : goal.returns-clause-digits
returns-clause-digits c =
    let v = c.loop-left.invariant in
    let inside = v.0 in
    let within = v.1 in
    let long = v.2 in
    digit_last c.args.number c.loop-left.left c.loop-left.place c.loop-left.bytes (replicate 17 0x3B)
    (omega (arith, inside)) (omega (arith, within, long)) c.loop-left-test.false v.4
