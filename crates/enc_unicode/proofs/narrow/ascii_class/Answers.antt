use Rattle.std.proofs.Common.{◌≡◌, ◌<◌, ◌^◌, ◌∙◌, ltb, map, length, subst, sym, arith, w16}
use Rattle.std.proofs.lemmas.List.{length-map}
use Rattle.std.proofs.lemmas.Simd.{bitmask_splat, mask_l-lt}
use lib.Lanes.{mask_l}
use Rattle.enc_unicode.proofs.narrow.ascii_class.Goals as goal

pub returns-clause-mask : goal.returns-clause-mask
returns-clause-mask c = bitmask_splat w16 ltb c.args.units 8 128 c.fits-units.0 (omega arith)

pub returns-clause-few : goal.returns-clause-few
returns-clause-few c =
    let units = c.args.units in
    let ms = map (λ u. ltb u 128) units in
    let long : length ms ≡ 8 = length-map units (λ u. ltb u 128) ∙ c.fits-units.0 in
    let bound : mask_l ms < 2 ^ 8 = subst (λ n. mask_l ms < 2 ^ n) long (mask_l-lt ms) in
    subst (λ m. m < 256) (sym (bitmask_splat w16 ltb units 8 128 c.fits-units.0 (omega arith))) bound
