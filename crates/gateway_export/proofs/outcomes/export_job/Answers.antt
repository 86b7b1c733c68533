use Rattle.std.proofs.Common.{◌≡◌, ◌∙◌, [], ◌∷◌, ℕ, List, Some, IfOk, ap, false, option_map, rules, subst, sym, true}
use Rattle.std.specs.Prelude.{OnErr, string_bytes}
use Rattle.gateway_export.proofs.Later.{more_on}
use Rattle.gateway_export.specs.Exporting.{AllLast, ExportsAs, ExportsOneAs, TellsOf, ToldOne, differs_one}
use Rattle.gateway_export.specs.Exporting.{is_amiss, is_other, is_unread}
use Rattle.gateway_export.specs.Planning.{Job, job_in}
use Rattle.gateway_export.proofs.Exported.{as_none, done_none, done_some, each_none, each_one, job_first}
use Rattle.gateway_export.proofs.Exported.{job_last, job_none, of_some, one_lasts, taken_none, taken_some}
use Rattle.gateway_export.proofs.Told.{told_none}
use Rattle.gateway_export.proofs.outcomes.export_job.Goals as goal

pub returns-in_default-clause-files : goal.returns-in_default-clause-files
returns-in_default-clause-files g c sure w represents files held =
    let takes = g.F.Folder.takes c.args.folder.now in
    as_none sure (g.F.Folder.holds c.args.folder.now) w.store files (job_in takes c.args.job.now)
    (job_none takes c.args.job.now (ap (λ name. option_map string_bytes name) c.in_default.is)) held

pub returns-in_default-clause-settled : goal.returns-in_default-clause-settled
returns-in_default-clause-settled g c files held other =
    let takes = g.F.Folder.takes c.args.folder.now in
    each_none (λ number name. g.F.Folder.lasting c.args.folder.now name) (job_in takes c.args.job.now)
    (job_none takes c.args.job.now (ap (λ name. option_map string_bytes name) c.in_default.is))

pub returns-in-Some-2-clause-files : goal.returns-in-Some-2-clause-files
returns-in-Some-2-clause-files g c sure w represents files held =
    let takes = g.F.Folder.takes c.args.folder.now in
    let holds = g.F.Folder.holds c.export_as.new.folder in
    let job = c.args.job.now in
    let name = c.as_str.result.now in
    let outcome = c.in-Some-2.outcome in
    let done = c.in_ok-outcome.field-0 in
    let named : name ≡ string_bytes c.in-Some.name = search rules in
    let same = job_first takes job name
    (ap (λ x. option_map string_bytes x) c.in-Some.is ∙ ap (λ (x : List ℕ). Some x) (sym named))
    (taken_some (takes name) done outcome c.in-Some-2.is (c.in_ok-outcome.ensures.taken files held)) in
    subst (λ (j : Job). ExportsAs sure (is_amiss outcome) holds w.store (j ∷ []) files) same
    (done_some sure holds w.store files (job.number, Some name) done outcome c.in-Some-2.is
    (c.in_ok-outcome.ensures.files sure w represents files held))

pub returns-in-Some-2-clause-differs : goal.returns-in-Some-2-clause-differs
returns-in-Some-2-clause-differs g c w represents files held =
    let takes = g.F.Folder.takes c.args.folder.now in
    let job = c.args.job.now in
    let name = c.as_str.result.now in
    let outcome = c.in-Some-2.outcome in
    let done = c.in_ok-outcome.field-0 in
    let named : name ≡ string_bytes c.in-Some.name = search rules in
    let same = job_first takes job name
    (ap (λ x. option_map string_bytes x) c.in-Some.is ∙ ap (λ (x : List ℕ). Some x) (sym named))
    (taken_some (takes name) done outcome c.in-Some-2.is (c.in_ok-outcome.ensures.taken files held)) in
    subst (λ (j : Job). TellsOf (is_other outcome) (is_unread outcome) (differs_one w.store files j)) same
    (of_some (λ out. TellsOf (is_other out) (is_unread out) (differs_one w.store files (job.number, Some name))) done
    outcome c.in-Some-2.is (c.in_ok-outcome.ensures.differs w represents files held))

pub returns-in-Some-2-clause-settled : goal.returns-in-Some-2-clause-settled
returns-in-Some-2-clause-settled g c files held none =
    let takes = g.F.Folder.takes c.args.folder.now in
    let lasting = g.F.Folder.lasting c.export_as.new.folder in
    let job = c.args.job.now in
    let name = c.as_str.result.now in
    let outcome = c.in-Some-2.outcome in
    let done = c.in_ok-outcome.field-0 in
    let named : name ≡ string_bytes c.in-Some.name = search rules in
    let same = job_first takes job name
    (ap (λ x. option_map string_bytes x) c.in-Some.is ∙ ap (λ (x : List ℕ). Some x) (sym named))
    (taken_some (takes name) done outcome c.in-Some-2.is (c.in_ok-outcome.ensures.taken files held)) in
    subst (λ (j : Job). AllLast lasting (j ∷ [])) same
    (each_one (λ _ other. lasting other) job.number name
    (of_some (λ out. is_amiss out ≡ false → lasting name) done outcome c.in-Some-2.is
    (c.in_ok-outcome.ensures.settled files held) none))

pub returns-in-None-clause-files : goal.returns-in-None-clause-files
returns-in-None-clause-files g c sure w represents files held =
    let takes = g.F.Folder.takes c.args.folder.now in
    let job = c.args.job.now in
    let name = c.as_str.result.now in
    let done = c.in_ok-outcome.field-0 in
    let named : name ≡ string_bytes c.in-Some.name = search rules in
    let same = job_last takes job name
    (ap (λ x. option_map string_bytes x) c.in-Some.is ∙ ap (λ (x : List ℕ). Some x) (sym named))
    (taken_none (takes name) done c.in-None.is (c.in_ok-outcome.ensures.taken files held)) in
    subst (λ (j : Job). IfOk c.export_plain.result (λ outcome. ExportsAs sure (is_amiss outcome)
    (g.F.Folder.holds c.export_plain.new.folder) w.store (j ∷ []) files)) same
    (c.export_plain.ensures.files sure w (c.in_ok-outcome.ensures.represents sure w represents) files
    (done_none sure (g.F.Folder.holds c.export_as.new.folder) w.store files (job.number, Some name) done c.in-None.is
    (c.in_ok-outcome.ensures.files sure w represents files held)))

pub returns-in-None-clause-failed : goal.returns-in-None-clause-failed
returns-in-None-clause-failed g c sure w represents files held =
    let takes = g.F.Folder.takes c.args.folder.now in
    let job = c.args.job.now in
    let name = c.as_str.result.now in
    let done = c.in_ok-outcome.field-0 in
    let named : name ≡ string_bytes c.in-Some.name = search rules in
    let same = job_last takes job name
    (ap (λ x. option_map string_bytes x) c.in-Some.is ∙ ap (λ (x : List ℕ). Some x) (sym named))
    (taken_none (takes name) done c.in-None.is (c.in_ok-outcome.ensures.taken files held)) in
    subst (λ (j : Job). OnErr c.export_plain.result (ExportsOneAs sure (g.F.Folder.holds c.export_plain.new.folder)
    w.store j files)) same
    (c.export_plain.ensures.failed sure w (c.in_ok-outcome.ensures.represents sure w represents) files
    (done_none sure (g.F.Folder.holds c.export_as.new.folder) w.store files (job.number, Some name) done c.in-None.is
    (c.in_ok-outcome.ensures.files sure w represents files held)))

pub returns-in-None-clause-differs : goal.returns-in-None-clause-differs
returns-in-None-clause-differs g c w represents files held =
    let takes = g.F.Folder.takes c.args.folder.now in
    let job = c.args.job.now in
    let name = c.as_str.result.now in
    let done = c.in_ok-outcome.field-0 in
    let named : name ≡ string_bytes c.in-Some.name = search rules in
    let same = job_last takes job name
    (ap (λ x. option_map string_bytes x) c.in-Some.is ∙ ap (λ (x : List ℕ). Some x) (sym named))
    (taken_none (takes name) done c.in-None.is (c.in_ok-outcome.ensures.taken files held)) in
    subst (λ (j : Job). IfOk c.export_plain.result (λ outcome. TellsOf (is_other outcome) (is_unread outcome)
    (differs_one w.store files j))) same
    (c.export_plain.ensures.differs w (c.in_ok-outcome.ensures.represents true w represents) files
    (done_none true (g.F.Folder.holds c.export_as.new.folder) w.store files (job.number, Some name) done c.in-None.is
    (c.in_ok-outcome.ensures.files true w represents files held)))

pub returns-in-None-clause-settled : goal.returns-in-None-clause-settled
returns-in-None-clause-settled g c files held =
    let takes = g.F.Folder.takes c.args.folder.now in
    let lasting = g.F.Folder.lasting c.export_plain.new.folder in
    let job = c.args.job.now in
    let name = c.as_str.result.now in
    let done = c.in_ok-outcome.field-0 in
    let named : name ≡ string_bytes c.in-Some.name = search rules in
    let same = job_last takes job name
    (ap (λ x. option_map string_bytes x) c.in-Some.is ∙ ap (λ (x : List ℕ). Some x) (sym named))
    (taken_none (takes name) done c.in-None.is (c.in_ok-outcome.ensures.taken files held)) in
    let all = c.in_ok-outcome.ensures.preserves files held in
    subst (λ (j : Job). IfOk c.export_plain.result (λ outcome. is_amiss outcome ≡ false → AllLast lasting (j ∷ [])))
    same
    (one_lasts c.export_plain.result lasting job.number (string_bytes job.plain)
    (c.export_plain.ensures.settled all.now all.held))

pub returns-in-None-clause-reads : goal.returns-in-None-clause-reads
returns-in-None-clause-reads g c = more_on c.in_ok-outcome.ensures.reads c.export_plain.ensures.reads

pub returns-in_default-clause-told : goal.returns-in_default-clause-told
returns-in_default-clause-told g c w represents files held =
    let takes = g.F.Folder.takes c.args.folder.now in
    told_none w.store files (job_in takes c.args.job.now)
    (job_none takes c.args.job.now (ap (λ name. option_map string_bytes name) c.in_default.is))

pub returns-in-Some-2-clause-told : goal.returns-in-Some-2-clause-told
returns-in-Some-2-clause-told g c w represents files held =
    let takes = g.F.Folder.takes c.args.folder.now in
    let job = c.args.job.now in
    let name = c.as_str.result.now in
    let outcome = c.in-Some-2.outcome in
    let done = c.in_ok-outcome.field-0 in
    let named : name ≡ string_bytes c.in-Some.name = search rules in
    let same = job_first takes job name
    (ap (λ x. option_map string_bytes x) c.in-Some.is ∙ ap (λ (x : List ℕ). Some x) (sym named))
    (taken_some (takes name) done outcome c.in-Some-2.is (c.in_ok-outcome.ensures.taken files held)) in
    subst (λ (j : Job). ToldOne w.store files j outcome) same
    (of_some (λ out. ToldOne w.store files (job.number, Some name) out) done outcome c.in-Some-2.is
    (c.in_ok-outcome.ensures.told w represents files held))

pub returns-in-None-clause-told : goal.returns-in-None-clause-told
returns-in-None-clause-told g c w represents files held =
    let takes = g.F.Folder.takes c.args.folder.now in
    let job = c.args.job.now in
    let name = c.as_str.result.now in
    let done = c.in_ok-outcome.field-0 in
    let named : name ≡ string_bytes c.in-Some.name = search rules in
    let same = job_last takes job name
    (ap (λ x. option_map string_bytes x) c.in-Some.is ∙ ap (λ (x : List ℕ). Some x) (sym named))
    (taken_none (takes name) done c.in-None.is (c.in_ok-outcome.ensures.taken files held)) in
    subst (λ (j : Job). IfOk c.export_plain.result (λ outcome. ToldOne w.store files j outcome)) same
    (c.export_plain.ensures.told w (c.in_ok-outcome.ensures.represents true w represents) files
    (done_none true (g.F.Folder.holds c.export_as.new.folder) w.store files (job.number, Some name) done c.in-None.is
    (c.in_ok-outcome.ensures.files true w represents files held)))
