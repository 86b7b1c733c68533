use Rattle.std.proofs.Common.{inr}
use Rattle.std.proofs.lemmas.Result.{err_from_is_err_and}
use Rattle.gateway_export.specs.Exporting.{is_amiss}
use Rattle.gateway_export.proofs.Exported.{any_one}
use Rattle.gateway_export.proofs.outcomes.do_job.Goals as goal

pub returns-in_err-report_outcome-in-Ok-default-clause-failed :
    goal.returns-in_err-report_outcome-in-Ok-default-clause-failed
returns-in_err-report_outcome-in-Ok-default-clause-failed g c sure w represents files held =
    let p = err_from_is_err_and c.from_residual.result c.from_residual.ensures.1 in
    rw p.1 (inr (any_one (is_amiss c.in-Ok-default.outcome)
    (c.in-Ok-default.ensures.files sure w represents files held)))
