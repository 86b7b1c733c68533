use Rattle.std.proofs.Common.{◌≡◌, ◌<◌, ◌^◌, ◌∙◌, ltb, map, length, ap, subst, sym, arith, w32}
use Rattle.std.proofs.lemmas.List.{length-map}
use Rattle.std.proofs.lemmas.Simd.{bitmask_splat, mask_l-lt}
use lib.Lanes.{mask_l}
use Rattle.enc_unicode.proofs.packing.below.Goals as goal

pub returns-clause-mask : goal.returns-clause-mask
returns-clause-mask c =
    let is = c.widened.ensures in
    let limit = c.args.limit in
    bitmask_splat w32 ltb c.widened.result 4 limit (ap length is ∙ c.fits-units.0) (omega arith)
    ∙ ap (λ us. mask_l (map (λ u. ltb u limit) us)) is

pub returns-clause-few : goal.returns-clause-few
returns-clause-few c =
    let is = c.widened.ensures in
    let units = c.widened.result in
    let ms = map (λ u. ltb u c.args.limit) units in
    let long : length ms ≡ 4 = length-map units (λ u. ltb u c.args.limit) ∙ ap length is ∙ c.fits-units.0 in
    let bound : mask_l ms < 2 ^ 4 = subst (λ n. mask_l ms < 2 ^ n) long (mask_l-lt ms) in
    let is = bitmask_splat w32 ltb units 4 c.args.limit (ap length is ∙ c.fits-units.0) (omega arith) in
    subst (λ m. m < 16) (sym is) bound
