use Rattle.std.proofs.Common.{◌≡◌, ◌+◌, ◌<◌, ◌^◌, ◌∙◌, [], ◌∷◌, ℕ, Bool, List, arith, false, length, map}
use Rattle.std.proofs.Common.{subst, take, true}
use Rattle.std.proofs.lemmas.List.{take_all}
use Rattle.gateway_export.proofs.Later.{more_on}
use Rattle.gateway_outside.specs.Counted.{unfailed}
use Rattle.gateway_texts.specs.Pieces.{quiet_both}
use Rattle.gateway_export.specs.Exporting.{AllLast, ExportsAs, ExportsOneAs, TellsOf, ToldOne, differs_one}
use Rattle.gateway_export.specs.Exporting.{is_amiss, is_other, is_unread, some_amiss, some_differ}
use Rattle.gateway_export.specs.Planning.{job_in}
use Rattle.gateway_export.proofs.Counting.{by_none, counts_both, handed_on, refused_after, refused_on}
use Rattle.gateway_export.proofs.Counting.{unrefused}
use Rattle.gateway_export.proofs.Exported.{amiss_more, as_either, as_more, as_some, differ_more, holds_both}
use Rattle.gateway_export.proofs.Exported.{last_more, surely, tells_more}
use Rattle.gateway_export.proofs.Told.{few_exported, few_there, told_more}
use Rattle.gateway_export.proofs.exporting.do_jobs.Goals as goal

pub returns-in_err-outcome-clause-whole : goal.returns-in_err-outcome-clause-whole
returns-in_err-outcome-clause-whole g c sure w represents files held =
    let is = c.loop-job.invariant in
    let so_far = is.3 sure w represents files held in
    let holds = g.F.Folder.holds c.do_job.new.folder in
    as_either (job_in (g.F.Folder.takes c.args.folder.now)) sure (some_amiss c.loop-job.done)
    (g.F.Folder.holds c.loop-job.folder) holds w.store files c.args.jobs.now c.loop-job.job-index c.job-item.result
    c.loop-job-test.true c.job-item.is so_far
    (subst (λ (t : List ℕ → Bool). ExportsOneAs sure holds w.store (job_in t c.job-item.result) so_far.now) is.8
    (c.in_err-outcome.ensures.failed sure w (is.2 sure w represents) so_far.now so_far.held))

pub returns-in_err-outcome-clause-preserves : goal.returns-in_err-outcome-clause-preserves
returns-in_err-outcome-clause-preserves g c files held =
    holds_both (g.F.Folder.holds c.loop-job.folder) (g.F.Folder.holds c.do_job.new.folder) files
    (c.loop-job.invariant.7 files held) c.in_err-outcome.ensures.preserves

pub returns-in_err-outcome-clause-still : goal.returns-in_err-outcome-clause-still
returns-in_err-outcome-clause-still g c name lasts = c.in_err-outcome.ensures.still name (c.loop-job.invariant.6 name
    lasts)

pub returns-in_err-outcome-clause-reads : goal.returns-in_err-outcome-clause-reads
returns-in_err-outcome-clause-reads g c = more_on c.loop-job.invariant.9 c.in_err-outcome.ensures.reads

pub returns-in_err-outcome-clause-io : goal.returns-in_err-outcome-clause-io
returns-in_err-outcome-clause-io g c sure w represents =
    let is = c.loop-job.invariant in
    let so_far = is.10 sure w represents in
    refused_on c.from_residual.result _ _ _ _ _ (handed_on c.from_residual.result _ c.from_residual.ensures.1)
    (refused_after _ _ _ _ _ _ _ _ so_far.0 so_far.1 (c.in_err-outcome.ensures.io sure w (is.2 sure w represents)))

pub returns-clause-io : goal.returns-clause-io
returns-clause-io g c sure w represents =
    let so_far = c.loop-job.invariant.10 sure w represents in
    by_none _ _ _ _ _ (λ io. absurd (cc)) so_far.0 so_far.1

pub returns-clause-files : goal.returns-clause-files
returns-clause-files g c sure w represents files held =
    rw (take_all c.loop-job.job-index c.args.jobs.now c.loop-job-test.false)
    at (c.loop-job.invariant.3 sure w represents files held)

pub returns-clause-whole : goal.returns-clause-whole
returns-clause-whole g c sure w represents files held =
    as_some (job_in (g.F.Folder.takes c.args.folder.now)) sure (g.F.Folder.holds c.loop-job.folder) w.store files
    c.args.jobs.now c.loop-job.job-index
    (some_amiss c.loop-job.done) (c.loop-job.invariant.3 sure w represents files held)

pub returns-clause-differs : goal.returns-clause-differs
returns-clause-differs g c w represents files held =
    rw (take_all c.loop-job.job-index c.args.jobs.now c.loop-job-test.false)
    at (c.loop-job.invariant.4 w represents files held)

pub returns-clause-tells : goal.returns-clause-tells
returns-clause-tells g c w represents files held =
    rw (take_all c.loop-job.job-index c.args.jobs.now c.loop-job-test.false)
    at (c.loop-job.invariant.12 w represents files held)

pub returns-clause-settled : goal.returns-clause-settled
returns-clause-settled g c files held none =
    rw (take_all c.loop-job.job-index c.args.jobs.now c.loop-job-test.false)
    at (c.loop-job.invariant.5 files held none)

pub loop-job-preserved : goal.loop-job-preserved
loop-job-preserved g c =
    let is = c.loop-job.invariant in
    let one = c.in_ok-outcome.ensures in
    let was = c.loop-job.done in
    let outcome = c.in_ok-outcome.outcome in
    let shown = job_in (g.F.Folder.takes c.args.folder.now) in
    let job = c.job-item.result in
    let more = amiss_more was.differs was.unread (is_other outcome) (is_unread outcome) c.and-done.result.differs
    c.and-done.result.unread c.and-done.ensures.differs c.and-done.ensures.unread in (
      unfailed _ _ _ (λ f. absurd (cc)) one.counts ∙ is.0,
      quiet_both _ _ _ _ _ _ is.1 one.crash,
      λ sure w represents. one.represents sure w (is.2 sure w represents),
      λ sure w represents files held.
          let so_far = is.3 sure w represents files held in
          let holds = g.F.Folder.holds c.do_job.new.folder in
          subst (λ amiss. ExportsAs sure amiss holds w.store
          (map shown (take (c.loop-job.job-index + 1) c.args.jobs.now)) files) more
          (as_more shown sure (some_amiss was) (g.F.Folder.holds c.loop-job.folder) holds
          w.store files c.args.jobs.now c.loop-job.job-index job c.loop-job-test.true c.job-item.is so_far
          (is_amiss outcome)
          (subst (λ (t : List ℕ → Bool). ExportsAs sure (is_amiss outcome) holds w.store (job_in t job ∷ []) so_far.now)
          is.8 (one.files sure w (is.2 sure w represents) so_far.now so_far.held))),
      λ w represents files held.
          let so_far = is.3 true w represents files held in
          tells_more was.differs was.unread (some_differ w.store files (map shown (take c.loop-job.job-index
          c.args.jobs.now))) (is_other outcome) (is_unread outcome) (differs_one w.store so_far.now (shown job))
          c.and-done.result.differs c.and-done.result.unread
          (some_differ w.store files (map shown (take (c.loop-job.job-index + 1) c.args.jobs.now)))
          (is.4 w represents files held)
          (subst (λ (t : List ℕ → Bool). TellsOf (is_other outcome) (is_unread outcome)
          (differs_one w.store so_far.now (job_in t job))) is.8
          (one.differs w (is.2 true w represents) so_far.now so_far.held)) c.and-done.ensures.differs
          c.and-done.ensures.unread (differ_more shown w.store files so_far.now c.args.jobs.now c.loop-job.job-index
          job c.loop-job-test.true c.job-item.is so_far.are),
      λ files held none.
          let all = is.7 files held in
          let lasting = g.F.Folder.lasting c.do_job.new.folder in
          last_more shown (g.F.Folder.lasting c.loop-job.folder) lasting c.args.jobs.now
          c.loop-job.job-index job (some_amiss was) (is_amiss outcome) c.loop-job-test.true c.job-item.is
          one.still (is.5 files held)
          (subst (λ (t : List ℕ → Bool). is_amiss outcome ≡ false → AllLast lasting (job_in t job ∷ [])) is.8
          (one.settled all.now all.held)) (more ∙ none),
      λ name lasts. one.still name (is.6 name lasts),
      λ files held.
          holds_both (g.F.Folder.holds c.loop-job.folder) (g.F.Folder.holds c.do_job.new.folder) files
          (is.7 files held) one.preserves,
      one.names ∙ is.8,
      more_on is.9 one.reads,
      λ sure w represents.
          let so_far = is.10 sure w represents in
          let none = unrefused _ _ _ _ _ _ (λ io. absurd (cc)) (λ stop. stop)
          (one.io sure w (is.2 sure w represents)) in
          (none.0 ∙ so_far.0, none.1 ∙ so_far.1),
      counts_both was.unread (is_unread outcome) c.and-done.result.unread _ _ _ c.and-done.ensures.unread is.11
          one.unread,
      λ w represents files held.
          let so_far = is.12 w represents files held in
          let now = is.3 true w represents files held in
          let a = g.W.Output.contents c.args.writer.now in
          let b = g.W.Output.contents c.loop-job.writer in
          let few : length c.args.jobs.now < 2 ^ 64 = omega arith in
          told_more w.store files shown c.args.jobs.now c.loop-job.job-index a b was.exported was.there
          c.loop-job-test.true so_far now.now job outcome (g.W.Output.contents c.do_job.new.writer)
          c.and-done.result.exported c.and-done.result.there c.job-item.is
          (surely w.store (map shown (take c.loop-job.job-index c.args.jobs.now)) files now.now now.are)
          (subst (λ (t : List ℕ → Bool). ToldOne w.store now.now (job_in t job) outcome) is.8
          (one.told w (is.2 true w represents) now.now now.held)) one.line
          (c.and-done.ensures.exported (few_exported w.store files shown c.args.jobs.now c.loop-job.job-index a b
          was.exported was.there c.loop-job-test.true so_far few))
          (c.and-done.ensures.there (few_there w.store files shown c.args.jobs.now c.loop-job.job-index a b
          was.exported was.there c.loop-job-test.true so_far few)),
    )
