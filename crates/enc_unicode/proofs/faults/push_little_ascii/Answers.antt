use Rattle.enc_unicode.proofs.FaultRuns.{ascii_state, ascii_taken, none_read, none_state}
use Rattle.lane_kernels.proofs.Prefixes.{lanes_prefix}
use Rattle.enc_unicode.proofs.faults.push_little_ascii.Goals as goal

pub returns-then-bytes-lt-LANES-clause-text : goal.returns-then-bytes-lt-LANES-clause-text
returns-then-bytes-lt-LANES-clause-text c = none_read c.args.bytes.now c.args.batch.now

pub returns-then-bytes-lt-LANES-clause-state : goal.returns-then-bytes-lt-LANES-clause-state
returns-then-bytes-lt-LANES-clause-state c = none_state c.args.bytes.now

pub returns-then-prefix-eq0-clause-text : goal.returns-then-prefix-eq0-clause-text
returns-then-prefix-eq0-clause-text c = none_read c.args.bytes.now c.args.batch.now

pub returns-then-prefix-eq0-clause-state : goal.returns-then-prefix-eq0-clause-state
returns-then-prefix-eq0-clause-state c = none_state c.args.bytes.now

pub push_prefix-requires-clause-ascii : goal.push_prefix-requires-clause-ascii
push_prefix-requires-clause-ascii c =
    (lanes_prefix c.args.bytes.now c.ascii_lanes-prefix.result c.ascii_lanes-prefix.ensures).1

pub returns-clause-text : goal.returns-clause-text
returns-clause-text c =
    let n = c.ascii_lanes-prefix.result in
    let prefix = lanes_prefix c.args.bytes.now n c.ascii_lanes-prefix.ensures in
    ascii_taken c.args.bytes.now c.args.batch.now c.push_prefix.new.self n prefix.1 c.push_prefix.ensures

pub returns-clause-state : goal.returns-clause-state
returns-clause-state c =
    let n = c.ascii_lanes-prefix.result in
    ascii_state c.args.bytes.now n (lanes_prefix c.args.bytes.now n c.ascii_lanes-prefix.ensures).1
