use Rattle.std.proofs.Common.{◌-◌}
use Rattle.enc_unicode.proofs.Written.{WrittenTo}
use Rattle.enc_unicode.proofs.narrow.write_eights.Given as goal

abbrev pub invariant-loop-at : goal.invariant-loop-at
invariant-loop-at l = WrittenTo 8 2 l.units l.initial.code l.from l.at l.code l.len

abbrev pub decreases-loop-at : goal.decreases-loop-at
decreases-loop-at l = 32 - l.at
