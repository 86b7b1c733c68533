use Rattle.std.proofs.Common.{◌∙◌, ap, map}
use Rattle.gateway_outside.specs.Above.{reported_first, reported_next, reported_none}
use Rattle.gateway_export.specs.Planning.{job_in, jobs_of}
use Rattle.gateway_export.proofs.Planned.{job_is, jobs_one, jobs_record, one_each}
use Rattle.gateway_export.proofs.planning.plan.Goals as goal

pub loop-init : goal.loop-init
loop-init g c sure w represents order files held =
    let takes = g.F.Folder.takes c.args.folder.now in
    reported_first (jobs_one takes c.args.all) (map (job_in takes) c.new-jobs.result.items) w.store.uploads order.some
    (ap (λ js. map (job_in takes) js) c.new-jobs.ensures.items)
    ∙ one_each takes c.args.all w.store.uploads

pub returns-in_default-clause-jobs : goal.returns-in_default-clause-jobs
returns-in_default-clause-jobs g c sure w represents order files held =
    let takes = g.F.Folder.takes c.args.folder.now in
    reported_none w.store.indexes (jobs_one takes c.args.all) (jobs_of takes c.args.all w.store)
    (map (job_in takes) c.loop.jobs.items) w.store.uploads c.loop.number _ (c.record_after.ensures sure w represents)
    (c.loop.invariant sure w represents order files held) c.in_default.is

pub loop-preserved : goal.loop-preserved
loop-preserved g c sure w represents order files held =
    let takes = g.F.Folder.takes c.args.folder.now in
    reported_next w.store.indexes (jobs_one takes c.args.all) (jobs_of takes c.args.all w.store)
    (map (job_in takes) c.loop.jobs.items) w.store.uploads c.loop.number _ (c.record_after.ensures sure w represents)
    (c.loop.invariant sure w represents order files held) (jobs_record takes c.args.all)
    (job_is takes c.args.all w.store.indexes) c.in-Some.record (map (job_in takes) c.push_job.new.jobs.items)
    order.rising
    c.in-Some.is (c.in_ok-push_job.ensures.job files held)
