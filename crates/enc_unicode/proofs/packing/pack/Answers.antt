use Rattle.std.proofs.Common.{◌+◌, ◌*◌, arith}
use Rattle.enc_unicode.proofs.Places.{row_for, few_at, small_at, wide_at}
use Rattle.enc_unicode.proofs.packing.pack.Goals as goal

pub returns-clause-long : goal.returns-clause-long
returns-clause-long c =
    wide_at (c.below.result + c.below-2.result * 16) (omega (arith, c.below.ensures.few, c.below-2.ensures.few))

pub returns-clause-row : goal.returns-clause-row
returns-clause-row c =
    row_for c.args.units c.below.result c.below-2.result c.fits-units.0 c.below.ensures.mask c.below.ensures.few
    c.below-2.ensures.mask c.below-2.ensures.few

pub returns-clause-few : goal.returns-clause-few
returns-clause-few c =
    few_at (c.below.result + c.below-2.result * 16) (omega (arith, c.below.ensures.few, c.below-2.ensures.few))

pub returns-clause-small : goal.returns-clause-small
returns-clause-small c =
    small_at (c.below.result + c.below-2.result * 16) (omega (arith, c.below.ensures.few, c.below-2.ensures.few))
