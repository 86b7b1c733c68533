use Rattle.std.proofs.Common.{◌+◌, ◌≤◌, length, arith, rules}
use Rattle.std.proofs.lemmas.Grind.{common_steps}
use Rattle.std.specs.Char.{is_ascii}
use Rattle.lane_kernels.proofs.Prefixes.{passes_within}
use Rattle.lane_kernels.proofs.prefix.ascii_front.Goals as goal

pub overflow_add-result : goal.overflow_add-result
overflow_add-result c =
    let total : c.skip_long_ascii-skipped.result + c.short_ascii_prefix.result ≤ length c.args.bytes.now =
    passes_within is_ascii c.args.bytes.now _ _ c.skip_long_ascii-skipped.ensures.passed (grind (arith, common_steps))
    in
    search (rules, total)
