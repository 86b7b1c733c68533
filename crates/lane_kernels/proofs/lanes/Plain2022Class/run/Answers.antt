use Rattle.std.proofs.Common.{◌∙◌, leb, eqb, not, ◌||◌, arith, w8}
use Rattle.std.proofs.lemmas.Simd.{length-chunk}
use Rattle.std.proofs.lemmas.Bool.Decides.{nat_tests}
use lib.Lanes.{chunk}
use Rattle.lane_kernels.specs.Classes.{is_plain_2022}
use Rattle.lane_kernels.proofs.Hits.{first_hit, either_hit, compared, compared_with}
use Rattle.lane_kernels.proofs.Prefixes.{same_prefix}
use Rattle.lane_kernels.proofs.lanes.Plain2022Class.run.Goals as goal

pub returns : goal.returns
returns c =
    let v = chunk c.args.at 32 c.args.bytes.now in
    let long = length-chunk c.args.at 32 c.args.bytes.now c.requires in
    let first = either_hit (λ x. leb 128 x) (λ x. eqb x 14) v (compared_with w8 leb v 32 128 long)
    (compared w8 eqb v 32 14 long) in
    let second = either_hit (λ x. leb 128 x || eqb x 14) (λ x. eqb x 15) v first (compared w8 eqb v 32 15 long) in
    let third = either_hit (λ x. (leb 128 x || eqb x 14) || eqb x 15) (λ x. eqb x 27) v second
    (compared w8 eqb v 32 27 long) in
    c.first_set.ensures
    ∙ first_hit w8 (λ x. ((leb 128 x || eqb x 14) || eqb x 15) || eqb x 27) v 32 long (omega arith) third
    ∙ same_prefix (λ x. not (((leb 128 x || eqb x 14) || eqb x 15) || eqb x 27)) is_plain_2022
    (λ x. grind (arith, nat_tests)) v
