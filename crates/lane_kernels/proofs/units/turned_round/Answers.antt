use Rattle.std.proofs.Common.{◌+◌, ◌*◌, ◌/◌, ◌%◌, ◌^◌, ◌∙◌, arith, w16}
use Rattle.std.proofs.lemmas.Simd.{below_from_Fits, zip2_splat, zip2_of_maps}
use Rattle.lane_kernels.proofs.Made.{map_alike}
use Rattle.lane_kernels.proofs.units.turned_round.Goals as goal

pub returns : goal.returns
returns c =
    let v = c.args.units in
    zip2_of_maps (λ a b. (a + b) % 65536) (λ x. x * 256 % 65536) (λ x. x / 256) v
    (zip2_splat (λ x s. x * 2 ^ s % 65536) v 32 8 c.fits-units.0) (zip2_splat (λ x s. x / 2 ^ s) v 32 8 c.fits-units.0)
    ∙ map_alike 65536 (λ x. (x * 256 % 65536 + x / 256) % 65536) (λ x. x % 256 * 256 + x / 256)
    (λ x small. omega (arith, small)) v (below_from_Fits w16 v c.fits-units.1)
