use Rattle.std.proofs.Common.{◌≡◌, ◌⊎◌, [], ap, sym, subst, ◌∙◌}
use Rattle.std.specs.Prelude.{option_copied}
use Rattle.upload_rules.specs.declared.errors.UploadRefusal.{UploadRefusal}
use Rattle.upload_rules.proofs.Transcoders.{unencodable_ended}
use Rattle.spool_drafts.specs.Progress.{IsStateAfter}
use Rattle.spool_drafts.proofs.TranscoderStates.{after, finishes, nothing_yet, open_refusal, reads_after}
use Rattle.spool_drafts.proofs.progress.Progress.ended.Goals as goal

pub returns-in_default-clause-finished : goal.returns-in_default-clause-finished
returns-in_default-clause-finished c u bytes still here complete =
    let x = c.args.indexes.now in
    let none = subst (IsStateAfter x u bytes) (sym c.transcoder.ensures ∙ ap option_copied c.in_default.is) here in (
      c.refusal.ensures.same ∙ open_refusal u c.args.self.now still complete,
      unencodable_ended x u bytes c.args.completes (none still),
    )

pub returns-clause-finished : goal.returns-clause-finished
returns-clause-finished c u bytes still here complete =
    let x = c.args.indexes.now in
    let reads = subst (IsStateAfter x u bytes) (sym c.transcoder.ensures ∙ ap option_copied c.in-Some.is) here in
    finishes x u bytes c.args.completes _ c.end_text.ensures.refusal
    (c.end_text.ensures.ended (after u bytes) [] (reads_after x u bytes c.in-Some.transcoder.now reads)
    (nothing_yet x u bytes _ c.new.ensures.items))

pub returns-in_default-clause-refusal : goal.returns-in_default-clause-refusal
returns-in_default-clause-refusal c e is =
    let same : c.refusal.result ≡ e = cc in
    subst (λ (r : UploadRefusal). (r ≡ UploadRefusal.Unencodable) ⊎ (r ≡ UploadRefusal.TooLong)) same
    c.refusal.ensures.either
