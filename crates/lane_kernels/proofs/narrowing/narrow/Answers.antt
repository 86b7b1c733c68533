use Rattle.std.proofs.Common.{◌+◌, ◌≤◌, ◌++◌, length, take, drop, ap, ◌∙◌, arith}
use Rattle.std.proofs.lemmas.List.Sums.{prefix_len-le-length}
use lib.Lanes.{chunk, put_chunk}
use Rattle.std.specs.Char.{is_ascii}
use Rattle.lane_kernels.proofs.Written.{written_chunk, rest_unchanged}
use Rattle.lane_kernels.proofs.Prefixes.{chunk_goes_on}
use Rattle.lane_kernels.proofs.narrowing.narrow.Goals as goal

pub by_lanes-preserved : goal.by_lanes-preserved
by_lanes-preserved c =
    let at = c.by_lanes.at in
    let units = c.args.units.now in
    let inside : at + 32 ≤ length units = omega (arith, c.by_lanes-test.true) in
    let room : at + 32 ≤ length c.args.out.now = omega (arith, c.if-out-at-ge-LANES.true, c.by_lanes.auto.out) in
    record {
      prefix = chunk_goes_on is_ascii at 32 units inside c.by_lanes.invariant.prefix
          (omega (arith, c.narrow_run.ensures, c.if-narrow_run-eq-LANES.true));
      room = room;
      written = c.write_lanes.ensures ∙ ap (λ out. put_chunk at out (chunk at 32 units)) c.by_lanes.invariant.written
          ∙ written_chunk units c.args.out.now at 32 inside room;
    }

pub returns-then-at-units-clause-length : goal.returns-then-at-units-clause-length
returns-then-at-units-clause-length c =
    omega (
      arith,
      c.if-at-units.true,
      prefix_len-le-length is_ascii c.args.units.now,
      c.by_lanes.invariant.prefix,
      c.by_lanes.invariant.room,
    )

pub returns-clause-written : goal.returns-clause-written
returns-clause-written c =
    let n = c.narrow_by_units.result in
    let at = c.by_lanes.at in
    let inside = prefix_len-le-length is_ascii c.args.units.now in
    let further : at ≤ n = omega (
      arith,
      c.narrow_by_units.ensures.length,
      c.by_lanes.invariant.prefix,
      c.by_lanes.invariant.room,
      c.by_lanes.auto.out,
    ) in
    c.narrow_by_units.ensures.written
    ∙ ap (λ rest. take n c.args.units.now ++ rest)
    (ap (drop n) c.by_lanes.invariant.written ∙ rest_unchanged c.args.units.now c.args.out.now at n
    (omega (arith, inside, c.by_lanes.invariant.prefix)) further)
