use Rattle.std.proofs.Common.{rules, ◌<◌, ◌^◌, arith}
use Rattle.std.proofs.lemmas.Grind.{common_steps}
use Rattle.common.proofs.Numbers.{more_digits, small_digits}
use Rattle.common.proofs.texts.number.Goals as goal

pub overflow_mul-value : goal.overflow_mul-value
overflow_mul-value c =
    let s : c.loop-digit.value < 10 ^ 17 =
    small_digits c.args.text.now c.loop-digit.digit-index _ (omega arith) (omega arith) c.loop-digit.invariant in
    omega arith

pub overflow_add-value : goal.overflow_add-value
overflow_add-value c =
    let s : c.loop-digit.value < 10 ^ 17 =
    small_digits c.args.text.now c.loop-digit.digit-index _ (omega arith) (omega arith) c.loop-digit.invariant in
    omega arith

pub loop-digit-preserved : goal.loop-digit-preserved
loop-digit-preserved c = more_digits c.args.text.now c.loop-digit.digit-index c.loop-digit.value (omega arith)
    c.loop-digit.invariant (search rules) (grind (arith, common_steps)) (grind (arith, common_steps))
