use Rattle.std.proofs.Common.{take}
use Rattle.common.specs.Numbers.{AreDigits}
use Rattle.common.proofs.texts.number.Given as goal

abbrev pub invariant-loop-digit : goal.invariant-loop-digit
invariant-loop-digit l = AreDigits (take l.digit-index l.text) l.value
