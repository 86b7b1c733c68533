use Rattle.std.proofs.Common.{◌∙◌, arith}
use Rattle.std.proofs.lemmas.Simd.{length-chunk}
use Rattle.lane_kernels.proofs.Prefixes.{ascii_hit}
use Rattle.lane_kernels.proofs.lanes.wide_ascii.Goals as goal

pub returns : goal.returns
returns c =
    c.first_set.ensures ∙ ascii_hit _ 64 (length-chunk c.args.at 64 c.args.bytes.now c.requires) (omega arith)
