use Rattle.std.proofs.Common.{◌∙◌, ap, arith}
use Rattle.std.proofs.lemmas.List.{take_all}
use Rattle.std.specs.List.{prefix_len}
use Rattle.std.specs.Char.{is_ascii}
use Rattle.lane_kernels.proofs.prefix.ascii_chunk.Goals as goal

pub returns : goal.returns
returns c =
    let long = c.told-lanes in
    c.run.ensures ∙ ap (prefix_len is_ascii) (take_all 32 c.args.lanes.now (omega (arith, long)))
