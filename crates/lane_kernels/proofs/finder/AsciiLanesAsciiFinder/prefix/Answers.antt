use Rattle.lane_kernels.proofs.Prefixes.{lanes_prefix}
use Rattle.lane_kernels.proofs.finder.AsciiLanesAsciiFinder.prefix.Goals as goal

pub returns-clause-within : goal.returns-clause-within
returns-clause-within c = (lanes_prefix c.args.bytes.now c.ascii_lanes.result c.ascii_lanes.ensures).0

pub returns-clause-ascii : goal.returns-clause-ascii
returns-clause-ascii c = (lanes_prefix c.args.bytes.now c.ascii_lanes.result c.ascii_lanes.ensures).1
