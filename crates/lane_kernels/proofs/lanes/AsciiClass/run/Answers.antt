use Rattle.std.proofs.Common.{◌∙◌, arith}
use Rattle.std.proofs.lemmas.Simd.{length-chunk}
use Rattle.lane_kernels.proofs.Prefixes.{ascii_hit}
use Rattle.lane_kernels.proofs.lanes.AsciiClass.run.Goals as goal

pub returns : goal.returns
returns c =
    c.first_set.ensures ∙ ascii_hit _ 32 (length-chunk c.args.at 32 c.args.bytes.now c.requires) (omega arith)
