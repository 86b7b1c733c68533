use Rattle.std.proofs.Common.{◌∙◌, ltb, not, ◌||◌, arith, w8}
use Rattle.std.proofs.lemmas.Simd.{length-chunk}
use Rattle.std.proofs.lemmas.Bool.Decides.{nat_tests}
use lib.Lanes.{chunk}
use Rattle.enc_model.specs.Index.{within}
use Rattle.lane_kernels.proofs.Hits.{first_hit, either_hit, compared, compared_with}
use Rattle.lane_kernels.proofs.Prefixes.{same_prefix}
use Rattle.lane_kernels.proofs.lanes.RangeClass.run.Goals as goal

pub returns : goal.returns
returns c =
    let v = chunk c.args.at 32 c.args.bytes.now in
    let lo = c.args.self.now.lo in
    let hi = c.args.self.now.hi in
    let long = length-chunk c.args.at 32 c.args.bytes.now c.requires in
    let outside = either_hit (λ x. ltb x lo) (λ x. ltb hi x) v (compared w8 ltb v 32 lo long)
    (compared_with w8 ltb v 32 hi long) in
    c.first_set.ensures
    ∙ first_hit w8 (λ x. ltb x lo || ltb hi x) v 32 long (omega arith) outside
    ∙ same_prefix (λ x. not (ltb x lo || ltb hi x)) (within lo hi) (λ x. grind (arith, nat_tests)) v
