use Rattle.std.proofs.Common.{◌∙◌, ap, subst, ℕ, Bool, List, Some}
use Rattle.std.proofs.lemmas.Result.{err_from_is_err_and}
use Rattle.gateway_outside.specs.Writing.{whole_text}
use Rattle.gateway_export.specs.Exporting.{FailsAs}
use Rattle.gateway_export.proofs.Exported.{as_ended, wrote_as}
use Rattle.gateway_export.proofs.outcomes.write_text.Goals as goal

pub returns-in_ok-end-in-Ok-clause-files : goal.returns-in_ok-end-in-Ok-clause-files
returns-in_ok-end-in-Ok-clause-files g c sure w represents files held =
    let copied = c.in-Ok.ensures.copied sure w represents in
    wrote_as sure (g.F.Folder.holds c.end.new.self) w.store files c.args.number c.args.name.now copied.bytes
    c.in_ok-end-in-Ok.field-0 copied.are
    (c.in_ok-end-in-Ok.ensures.ended files copied.bytes
    (c.in-Ok.ensures.preserves files (c.in_ok-file.ensures.preserves files held))
    (whole_text _ _ copied.bytes (c.in_ok-file.ensures.empty files held) copied.wrote))

pub returns-in_ok-end-in-Ok-clause-taken : goal.returns-in_ok-end-in-Ok-clause-taken
returns-in_ok-end-in-Ok-clause-taken g c files held =
    c.in_ok-end-in-Ok.ensures.taken files (c.in-Ok.ensures.preserves files (c.in_ok-file.ensures.preserves files held))
    ∙ ap (λ (t : List ℕ → Bool). t c.args.name.now) (c.in-Ok.ensures.names ∙ c.in_ok-file.ensures.names)

pub returns-in_err-end-in-Ok-clause-failed : goal.returns-in_err-end-in-Ok-clause-failed
returns-in_err-end-in-Ok-clause-failed g c sure w represents files held =
    let copied = c.in-Ok.ensures.copied sure w represents in
    let name = c.args.name.now in
    let holds = g.F.Folder.holds c.end.new.self in
    let p = err_from_is_err_and c.from_residual-in_err-end-in-Ok.result
    c.from_residual-in_err-end-in-Ok.ensures.1 in
    rw p.1 (subst (λ (t : List ℕ → Bool). FailsAs sure holds w.store (c.args.number, Some name) (t name) files)
    (c.in-Ok.ensures.names ∙ c.in_ok-file.ensures.names)
    (as_ended sure holds w.store files c.args.number name copied.bytes (g.F.Folder.takes c.copy_into.new.folder name)
    copied.are (c.in_err-end-in-Ok.ensures.failed files copied.bytes
    (c.in-Ok.ensures.preserves files (c.in_ok-file.ensures.preserves files held))
    (whole_text _ _ copied.bytes (c.in_ok-file.ensures.empty files held) copied.wrote))))
