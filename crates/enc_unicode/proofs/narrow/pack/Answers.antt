use Rattle.std.proofs.Common.{◌<◌}
use Rattle.std.proofs.lemmas.Simd.{Each1-from_get_or}
use Rattle.enc_unicode.proofs.NarrowPlaces.{row_for, small_at, wide_at}
use Rattle.enc_unicode.proofs.narrow.pack.Goals as goal

pub returns-clause-long : goal.returns-clause-long
returns-clause-long c = wide_at c.ascii_class-class.result c.ascii_class-class.ensures.few

pub returns-clause-row : goal.returns-clause-row
returns-clause-row c =
    row_for c.args.units c.ascii_class-class.result c.fits-units.0
    (Each1-from_get_or (λ x. x < 2048) c.args.units 0 (λ i inside. c.requires i 0 inside))
    c.ascii_class-class.ensures.mask c.ascii_class-class.ensures.few

pub returns-clause-small : goal.returns-clause-small
returns-clause-small c = small_at c.ascii_class-class.result c.ascii_class-class.ensures.few
