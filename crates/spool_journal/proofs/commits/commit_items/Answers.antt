use Rattle.std.proofs.Common.{inl, inr, ⊎_elim}
use Rattle.spool_disk.proofs.Firm.{lasts_more, lasts_on, on_more}
use Rattle.spool_journal.proofs.Gate.{upto_none, opened_placing, reads_more, settled_more, ready_before}
use Rattle.spool_journal.proofs.Steps.{few_pages}
use Rattle.spool_journal.proofs.commits.commit_items.Goals as goal

pub returns-in_err-stage-clause-lasts : goal.returns-in_err-stage-clause-lasts
returns-in_err-stage-clause-lasts g c honest idle inside ascends =
    let j = c.args.journal in
    let few = c.requires.bound in
    lasts_more (c.stage.ensures.lasts honest j (few_pages j _ inside ascends) idle) (λ image before. inl before)

pub returns-in_err-open_gate-clause-lasts : goal.returns-in_err-open_gate-clause-lasts
returns-in_err-open_gate-clause-lasts g c honest idle inside ascends =
    let j = c.args.journal in
    let few = c.requires.bound in
    let fits = few_pages j _ inside ascends in
    let ready = c.in_ok-stage.ensures.ready honest j fits inside ascends in
    lasts_on (lasts_more (c.stage.ensures.lasts honest j fits idle) (λ image before. inl before))
    (lasts_more (c.open_gate.ensures.lasts (c.stage.ensures.honest.0 honest) j few _ _ ready)
    (λ image either. ⊎_elim (λ before. inl (ready_before ready.is_synced before)) (λ reads. inr reads) either))

pub returns-clause-done : goal.returns-clause-done
returns-clause-done g c honest idle inside ascends =
    let j = c.args.journal in
    let few = c.requires.bound in
    let fits = few_pages j _ inside ascends in
    let mid = c.stage.ensures.honest.0 honest in
    let opened = c.in_ok-open_gate.ensures.opened mid j few _ _
    (c.in_ok-stage.ensures.ready honest j fits inside ascends) in
    on_more c.finish.result (c.finish.ensures.settled (c.open_gate.ensures.honest.0 mid) j _ opened.matches
    (opened_placing opened) (upto_none _))
    (λ settled. settled_more opened.laid_over settled)

pub returns-clause-lasts : goal.returns-clause-lasts
returns-clause-lasts g c honest idle inside ascends =
    let j = c.args.journal in
    let few = c.requires.bound in
    let fits = few_pages j _ inside ascends in
    let mid = c.stage.ensures.honest.0 honest in
    let ready = c.in_ok-stage.ensures.ready honest j fits inside ascends in
    let opened = c.in_ok-open_gate.ensures.opened mid j few _ _ ready in
    lasts_on
    (lasts_on (lasts_more (c.stage.ensures.lasts honest j fits idle) (λ image before. inl before))
    (lasts_more (c.open_gate.ensures.lasts mid j few _ _ ready)
    (λ image either. ⊎_elim (λ before. inl (ready_before ready.is_synced before)) (λ reads. inr reads) either)))
    (lasts_more (c.finish.ensures.lasts (c.open_gate.ensures.honest.0 mid) j few _ opened.matches
    (opened_placing opened) (upto_none _)) (λ image reads. inr (reads_more opened.laid_over reads)))
