use Rattle.std.proofs.lemmas.Bool.{eqb-true}
use Rattle.lane_kernels.proofs.Prefixes.{on_true, four_low}
use Rattle.lane_kernels.proofs.lanes.are_ascii.Goals as goal

pub returns : goal.returns
returns c =
    on_true _ _ (λ yes. four_low c.args.bytes.now c.args.at c.requires c.wide_lanes.ensures c.wide_lanes-2.ensures
    c.wide_lanes-3.ensures c.wide_lanes-4.ensures (eqb-true _ _ yes))
