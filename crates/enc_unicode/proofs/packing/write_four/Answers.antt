use Rattle.std.proofs.Common.{◌<◌, arith, refl, w8, w16}
use Rattle.std.proofs.lemmas.Simd.{Each1-from_get_or, SwzOk-from_below, below_from_Fits}
use Rattle.enc_unicode.proofs.Places.{four_written}
use Rattle.enc_unicode.proofs.packing.write_four.Goals as goal

pub swizzle-bytes : goal.swizzle-bytes
swizzle-bytes c =
    let row = c.pack-pack.result in
    let e = c.pack-pack.ensures in
    SwzOk-from_below w8 16 1 16 0 row refl (omega (arith, e.long))
    (Each1-from_get_or (λ j. j < 16) row 0 (λ i inside. e.small i 0 inside))

pub returns-clause-code : goal.returns-clause-code
returns-clause-code c =
    let row = c.pack-pack.result in
    let e = c.pack-pack.ensures in
    four_written c.args.units row c.codes.result c.args.code.now c.args.from c.fits-units.0
    (below_from_Fits w16 c.args.units c.fits-units.1) e.long
    (Each1-from_get_or (λ j. j < 16) row 0 (λ i inside. e.small i 0 inside)) c.codes.ensures e.row e.few c.requires.room
