use Rattle.std.proofs.Common.{◌<◌, arith, refl, w8}
use Rattle.std.proofs.lemmas.Simd.{Each1-from_get_or, SwzOk-from_below}
use Rattle.enc_unicode.proofs.NarrowPlaces.{eight_written}
use Rattle.enc_unicode.proofs.narrow.write_eight.Goals as goal

pub swizzle-bytes : goal.swizzle-bytes
swizzle-bytes c =
    let row = c.pack-count.result.0 in
    let e = c.pack-count.ensures in
    SwzOk-from_below w8 16 1 16 0 row refl (omega (arith, e.long))
    (Each1-from_get_or (λ j. j < 16) row 0 (λ i inside. e.small i 0 inside))

pub returns-clause-code : goal.returns-clause-code
returns-clause-code c =
    let row = c.pack-count.result.0 in
    let e = c.pack-count.ensures in
    eight_written c.args.units row c.codes.result c.args.code.now c.args.from c.pack-count.result.1
    (Each1-from_get_or (λ x. x < 2048) c.args.units 0 (λ i inside. c.requires.narrow i 0 inside)) e.long
    (Each1-from_get_or (λ j. j < 16) row 0 (λ i inside. e.small i 0 inside)) c.codes.ensures e.row e.few
    c.requires.room
