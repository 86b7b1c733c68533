use Rattle.std.proofs.Common.{rules, refl, arith, ◌∙◌}
use Rattle.spool_disk.proofs.Firm.{lasts_call, lasts_on, not_err, one_call}
use Rattle.spool_journal.proofs.Steps.{staging_writes, staged_before, copied_more, no_failure}
use Rattle.spool_journal.proofs.staging.stage_pages.Goals as goal

pub returns-in_err-write_at-clause-staging : goal.returns-in_err-write_at-clause-staging
returns-in_err-write_at-clause-staging g c honest j few =
    staging_writes (c.loop-i.invariant.staging honest j few)
    (c.write_at.ensures.writes (c.loop-i.invariant.calls.honest honest)) (omega arith) (search rules)

pub returns-in_err-write_at-clause-lasts : goal.returns-in_err-write_at-clause-lasts
returns-in_err-write_at-clause-lasts g c honest j few idle =
    lasts_on (c.loop-i.invariant.lasts honest j few idle)
    (lasts_call (c.write_at.ensures.time (c.loop-i.invariant.calls.honest honest))
    (λ image is. staged_before idle (returns-in_err-write_at-clause-staging g c honest j few) is))

pub loop-i-preserved : goal.loop-i-preserved
loop-i-preserved g c =
    let inv = c.loop-i.invariant in
    record {
      calls = one_call inv.calls c.write_at.ensures.size c.write_at.ensures.honest
          (no_failure c.write_at.ensures.counts (not_err _ _ c.in_ok-write_at.was));
      reads = c.write_at.ensures.reads ∙ inv.reads;
      staging = λ honest j few. staging_writes (inv.staging honest j few)
          (c.write_at.ensures.writes (inv.calls.honest honest)) (omega arith) (search rules);
      copied = λ honest. copied_more _ _ _ (inv.copied honest)
          (c.in_ok-write_at.ensures.writes (inv.calls.honest honest))
          refl (search rules) (λ x. refl);
      lasts = λ honest j few idle. lasts_on (inv.lasts honest j few idle)
          (lasts_call (c.write_at.ensures.time (inv.calls.honest honest))
          (λ image is. staged_before idle
          (staging_writes (inv.staging honest j few) (c.write_at.ensures.writes (inv.calls.honest honest)) (omega arith)
          (search rules)) is));
    }
