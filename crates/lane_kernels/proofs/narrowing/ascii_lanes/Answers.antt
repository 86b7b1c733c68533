use Rattle.std.proofs.Common.{◌∙◌, leb, not, arith, w16}
use Rattle.std.proofs.lemmas.Bool.Decides.{nat_tests}
use Rattle.std.specs.Char.{is_ascii}
use Rattle.lane_kernels.proofs.Hits.{first_hit, compared_with}
use Rattle.lane_kernels.proofs.Prefixes.{same_prefix}
use Rattle.lane_kernels.proofs.narrowing.ascii_lanes.Goals as goal

pub returns : goal.returns
returns c =
    let v = c.args.lanes in
    let long = c.fits-lanes.0 in
    c.first_set.ensures
    ∙ first_hit w16 (λ x. leb 128 x) v 32 long (omega arith) (compared_with w16 leb v 32 128 long)
    ∙ same_prefix (λ x. not (leb 128 x)) is_ascii (λ x. grind (arith, nat_tests)) v
