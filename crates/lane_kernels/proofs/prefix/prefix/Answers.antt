use Rattle.std.proofs.Common.{◌≡◌, ◌+◌, ◌≤◌, length, arith, rules}
use Rattle.std.proofs.lemmas.Grind.{common_steps}
use Rattle.std.proofs.lemmas.Simd.{length-chunk}
use Rattle.std.specs.List.{prefix_len}
use Rattle.std.specs.Simd.Lanes.{chunk}
use Rattle.std.proofs.lemmas.List.Sums.{prefix_len-le-length}
use Rattle.lane_kernels.proofs.Prefixes.{chunk_passes, chunk_stops, passes_within}
use Rattle.lane_kernels.proofs.prefix.prefix.Goals as goal

pub returns-then-run-lt-LANES : goal.returns-then-run-lt-LANES
returns-then-run-lt-LANES g c =
    let p = g.C.Class.has c.args.class.now in
    let stops = chunk_stops p c.by_lanes.at 32 c.args.bytes.now (omega (arith, c.by_lanes-test.true))
    (omega (arith, c.run-run.ensures, c.if-run-lt-LANES.true)) in
    omega (arith, stops, c.run-run.ensures, c.by_lanes.invariant.passed)

pub by_lanes-preserved : goal.by_lanes-preserved
by_lanes-preserved g c =
    let p = g.C.Class.has c.args.class.now in
    let v = chunk c.by_lanes.at 32 c.args.bytes.now in
    let room : c.by_lanes.at + 32 ≤ length c.args.bytes.now = omega (arith, c.by_lanes-test.true) in
    let long = length-chunk c.by_lanes.at 32 c.args.bytes.now room in
    let whole : prefix_len p v ≡ 32 =
    omega (arith, c.run-run.ensures, c.if-run-lt-LANES.false, prefix_len-le-length p v, long) in
    let passes = chunk_passes p c.by_lanes.at 32 c.args.bytes.now room whole in
    record { in_range = room; passed = omega (arith, passes, c.by_lanes.invariant.passed) }

pub overflow_add-result-2 : goal.overflow_add-result-2
overflow_add-result-2 g c =
    let total : c.by_lanes.at + c.prefix_by_bytes.result ≤ length c.args.bytes.now =
    passes_within (g.C.Class.has c.args.class.now) c.args.bytes.now _ _ c.by_lanes.invariant.passed
    (grind (arith, common_steps)) in
    search (rules, total)
