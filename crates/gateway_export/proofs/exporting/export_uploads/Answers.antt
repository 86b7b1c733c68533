use Rattle.std.proofs.Common.{◌≡◌, ◌∙◌, ap, length, map, rules, subst, sym, true}
use Rattle.std.proofs.lemmas.List.{length-map}
use Rattle.gateway_export.specs.Exporting.{AllLast, Tells}
use Rattle.gateway_export.specs.Planning.{job_in, jobs_of}
use Rattle.gateway_export.proofs.Told.{told_all}
use Rattle.gateway_export.proofs.exporting.export_uploads.Goals as goal

pub returns-clause-settled : goal.returns-clause-settled
returns-clause-settled g c sure w represents order files held none =
    let given : c.deref.result.now ≡ c.in_ok-jobs.jobs.items = search rules in
    let takes = g.F.Folder.takes c.args.folder.now in
    let jobs : map (job_in takes) c.deref.result.now ≡ jobs_of takes c.args.all w.store =
    ap (λ js. map (job_in takes) js) given ∙ c.in_ok-jobs.ensures.jobs sure w represents order files held in
    subst (λ js. AllLast (g.F.Folder.lasting c.do_jobs.new.folder) js) jobs
    (c.in_ok-done.ensures.settled files held none)

pub returns-clause-tells : goal.returns-clause-tells
returns-clause-tells g c w represents order files held =
    let given : c.deref.result.now ≡ c.in_ok-jobs.jobs.items = search rules in
    let takes = g.F.Folder.takes c.args.folder.now in
    let jobs : map (job_in takes) c.deref.result.now ≡ jobs_of takes c.args.all w.store =
    ap (λ js. map (job_in takes) js) given ∙ c.in_ok-jobs.ensures.jobs true w represents order files held in
    let count : c.len.result ≡ length c.deref.result.now = search rules in
    let out = g.W.Output in
    subst (λ js. Tells w.store files js (out.contents c.args.writer.now) (out.contents c.report_done.new.writer)
    c.in_ok-done.done) jobs
    (told_all w.store files (map (job_in takes) c.deref.result.now) _ _ _ c.in_ok-done.done c.len.result
    (c.in_ok-done.ensures.tells w represents files held)
    (count ∙ sym (length-map c.deref.result.now (job_in takes))) c.in_ok-report_done.ensures.line)
