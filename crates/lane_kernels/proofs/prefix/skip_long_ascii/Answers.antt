use Rattle.std.proofs.lemmas.List.{take_rest}
use Rattle.std.specs.Char.{is_ascii}
use Rattle.std.proofs.Common.{◌+◌}
use Rattle.lane_kernels.proofs.Prefixes.{prefix_goes_on}
use Rattle.lane_kernels.proofs.prefix.skip_long_ascii.Goals as goal

pub returns-clause-passed : goal.returns-clause-passed
returns-clause-passed c =
    let bytes = c.args.bytes.now in
    let skipped = 256 + c.skip_pairs_of_runs-skipped.result in
    prefix_goes_on is_ascii bytes _ skipped c.skip_runs.result (take_rest bytes skipped)
    (prefix_goes_on is_ascii bytes _ 256 c.skip_pairs_of_runs-skipped.result (take_rest bytes 256)
    c.if-not-are_ascii.ensures c.skip_pairs_of_runs-skipped.ensures.passed)
    c.skip_runs.ensures.passed
