use Rattle.std.proofs.Common.{◌∙◌, ap, arith}
use Rattle.std.proofs.lemmas.List.{take_all}
use Rattle.std.specs.List.{prefix_len}
use Rattle.lane_kernels.specs.Classes.{is_plain_2022}
use Rattle.lane_kernels.proofs.prefix.plain_chunk_2022.Goals as goal

pub returns : goal.returns
returns c =
    let long = c.told-lanes in
    c.run.ensures ∙ ap (prefix_len is_plain_2022) (take_all 32 c.args.lanes.now (omega (arith, long)))
