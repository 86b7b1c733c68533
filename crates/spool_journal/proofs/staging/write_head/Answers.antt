use Rattle.std.proofs.Common.{rules, refl, arith}
use Rattle.spool_disk.proofs.Firm.{lasts_call, lasts_on, on_ok}
use Rattle.spool_journal.proofs.Steps.{staging_writes, staging_syncs, staging_start, staged_before, sync_image, head_at}
use Rattle.spool_journal.proofs.staging.write_head.Goals as goal

pub returns-clause-staging : goal.returns-clause-staging
returns-clause-staging g c honest =
    on_ok c.sync.result (λ done j. staging_syncs
    (staging_writes staging_start (c.write_at.ensures.writes honest) (omega arith) (search rules))
    (c.sync.ensures.syncs (c.write_at.ensures.honest.0 honest)) done)

pub returns-clause-head : goal.returns-clause-head
returns-clause-head g c honest =
    on_ok c.sync.result (λ done i lt. head_at _ _ (search rules) (c.in_ok-write_at.ensures.writes honest) refl
    (c.sync.ensures.syncs (c.write_at.ensures.honest.0 honest)) done i lt)

pub returns-clause-lasts : goal.returns-clause-lasts
returns-clause-lasts g c honest j idle =
    let mid = c.write_at.ensures.honest.0 honest in
    lasts_on (lasts_call (c.write_at.ensures.time honest)
    (λ image is. staged_before idle
    (staging_writes staging_start (c.write_at.ensures.writes honest) (omega arith) (search rules)) is))
    (lasts_call (c.sync.ensures.time mid)
    (λ image is. staged_before idle
    (staging_writes staging_start (c.write_at.ensures.writes honest) (omega arith) (search rules))
    (sync_image (c.sync.ensures.syncs mid) is)))
