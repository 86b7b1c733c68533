use Rattle.enc_model.specs.Indexes.{tables}
use Rattle.lane_kernels.proofs.Prefixes.{lanes_prefix}
use Rattle.enc_legacy.proofs.Prefixes.{euc_lanes}
use Rattle.enc_legacy.proofs.euc_jp.EucJpStatePairDecoder.ascii_lanes.Goals as goal

pub returns-then-is_at_start-clause-few : goal.returns-then-is_at_start-clause-few
returns-then-is_at_start-clause-few c = (lanes_prefix c.args.bytes.now c.ascii_lanes.result c.ascii_lanes.ensures).0

pub returns-then-is_at_start-clause-prefix : goal.returns-then-is_at_start-clause-prefix
returns-then-is_at_start-clause-prefix c =
    let t = tables c.args._indexes.now in
    euc_lanes t.jis0208 t.jis0212 c.args.self.now c.args.bytes.now c.ascii_lanes.result
    (c.is_at_start.ensures.0 c.if-is_at_start.true)
    c.requires c.ascii_lanes.ensures
