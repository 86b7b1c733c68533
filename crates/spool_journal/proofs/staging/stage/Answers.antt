use Rattle.spool_disk.proofs.Firm.{lasts_more, lasts_on}
use Rattle.spool_journal.proofs.Steps.{ready, before_on, idle_on, ready_ok}
use Rattle.spool_journal.proofs.staging.stage.Goals as goal

pub returns-clause-ready : goal.returns-clause-ready
returns-clause-ready g c honest j fits inside ascends =
    let mid = c.stage_pages.ensures.honest.0 honest in
    ready_ok c.write_head.result (c.write_head.ensures.staging mid) (c.write_head.ensures.is_synced mid)
    (c.write_head.ensures.head mid) (c.write_head.ensures.unchanged mid)
    (λ staging is_synced head unchanged. ready _ _ c.requires.some c.requires.few fits inside ascends
    (c.stage_pages.ensures.staging honest j fits) (c.in_ok-stage_pages.ensures.copied honest)
    c.head_of-head.ensures.count c.head_of-head.ensures.numbers (staging j) head unchanged is_synced)

pub returns-clause-lasts : goal.returns-clause-lasts
returns-clause-lasts g c honest j fits idle =
    let staging = c.stage_pages.ensures.staging honest j fits in
    lasts_on (c.stage_pages.ensures.lasts honest j fits idle)
    (lasts_more (c.write_head.ensures.lasts (c.stage_pages.ensures.honest.0 honest) j (idle_on idle staging))
    (λ image before. before_on staging before))
