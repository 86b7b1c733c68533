use Rattle.enc_model.specs.Indexes.{tables}
use Rattle.lane_kernels.proofs.Prefixes.{lanes_prefix}
use Rattle.enc_legacy.proofs.Prefixes.{sjis_lanes}
use Rattle.enc_legacy.proofs.shift_jis.ShiftJisStatePairDecoder.ascii_lanes.Goals as goal

pub returns-then-is_at_start-clause-few : goal.returns-then-is_at_start-clause-few
returns-then-is_at_start-clause-few c = (lanes_prefix c.args.bytes.now c.ascii_lanes.result c.ascii_lanes.ensures).0

pub returns-then-is_at_start-clause-prefix : goal.returns-then-is_at_start-clause-prefix
returns-then-is_at_start-clause-prefix c =
    sjis_lanes (tables c.args._indexes.now).jis0208 c.args.self.now c.args.bytes.now c.ascii_lanes.result
    (c.is_at_start.ensures.0 c.if-is_at_start.true) c.requires c.ascii_lanes.ensures
