use Rattle.std.proofs.Common.{leb, ltb, not, arith, w16, ◌∙◌}
use Rattle.std.proofs.lemmas.Bool.Decides.{nat_tests}
use Rattle.lane_kernels.proofs.Hits.{first_hit, compared_with}
use Rattle.lane_kernels.proofs.Prefixes.{same_prefix}
use Rattle.enc_encode.proofs.letters.count_below.Goals as goal

pub returns : goal.returns
returns c =
    let v = c.args.places in
    let n = c.args.count in
    let long = c.fits-places.0 in
    c.first_of_16.ensures
    ∙ first_hit w16 (λ x. leb n x) v 16 long (omega arith) (compared_with w16 leb v 16 n long)
    ∙ same_prefix (λ x. not (leb n x)) (λ x. ltb x n) (λ x. grind (arith, nat_tests)) v
