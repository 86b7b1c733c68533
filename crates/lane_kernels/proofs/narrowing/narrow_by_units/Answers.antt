use Rattle.std.proofs.Common.{◌≡◌, true, false, slice_index_or, get_or, set, ap, ◌∙◌, arith}
use Rattle.std.proofs.lemmas.Bool.Decides.{nat_tests}
use Rattle.std.proofs.lemmas.List.Sums.{prefix_len-le-length}
use Rattle.std.specs.Char.{is_ascii}
use Rattle.lane_kernels.proofs.Written.{written_more}
use Rattle.lane_kernels.proofs.Prefixes.{prefix_more, prefix_ends}
use Rattle.lane_kernels.proofs.narrowing.narrow_by_units.Goals as goal

pub loop-end-preserved : goal.loop-end-preserved
loop-end-preserved c =
    let units = c.args.units.now in
    let at = c.loop-end.end in
    let passes : is_ascii (slice_index_or units at 0) ≡ true = grind (arith, nat_tests, c.if-units-end-lt128.true) in
    let written = c.loop-end.invariant.written in
    record {
      prefix = prefix_more is_ascii units at c.loop-end.invariant.prefix c.loop-end-test.true passes;
      room = omega (arith, c.if-end-out.true, c.loop-end.auto.out);
      written = ap (λ out. set out at (get_or units at 0)) written ∙ written_more units c.args.out.now at
          c.loop-end-test.true (omega (arith, c.if-end-out.true, c.loop-end.auto.out));
    }

pub returns-else-units-end-lt128-clause-length : goal.returns-else-units-end-lt128-clause-length
returns-else-units-end-lt128-clause-length c =
    let units = c.args.units.now in
    let at = c.loop-end.end in
    let fails : is_ascii (slice_index_or units at 0) ≡ false = grind (arith, nat_tests, c.if-units-end-lt128.false) in
    let ends = prefix_ends is_ascii units at c.loop-end.invariant.prefix fails in
    omega (arith, ends, c.loop-end.invariant.room)

pub returns-after-loop-end-clause-length : goal.returns-after-loop-end-clause-length
returns-after-loop-end-clause-length c =
    omega (
      arith,
      prefix_len-le-length is_ascii c.args.units.now,
      c.loop-end-test.false,
      c.loop-end.invariant.prefix,
      c.loop-end.invariant.room,
    )
