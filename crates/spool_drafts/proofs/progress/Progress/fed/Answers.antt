use Rattle.std.proofs.Common.{false, ap, sym, subst, ◌∙◌}
use Rattle.std.specs.Prelude.{option_copied}
use Rattle.enc_model.specs.Indexes.{tables}
use Rattle.enc_model.specs.Transcode.{added}
use Rattle.upload_rules.proofs.Transcoders.{code_fault, piece_fault, stays_unencodable}
use Rattle.spool_drafts.specs.Progress.{IsStateAfter}
use Rattle.spool_drafts.proofs.TranscoderStates.{fed}
use Rattle.spool_drafts.proofs.progress.Progress.fed.Goals as goal

pub returns-in_default-clause-reads : goal.returns-in_default-clause-reads
returns-in_default-clause-reads c u bytes still here =
    let x = c.args.indexes.now in
    let none = subst (IsStateAfter x u bytes) (sym c.transcoder.ensures ∙ ap option_copied c.in_default.is) here in
    record { state_after = λ _. stays_unencodable x u bytes c.args.piece.now false (none still); adds = tt }

pub returns-in-Ok-clause-reads : goal.returns-in-Ok-clause-reads
returns-in-Ok-clause-reads c u bytes still here =
    let x = c.args.indexes.now in
    let reads = subst (IsStateAfter x u bytes) (sym c.transcoder.ensures ∙ ap option_copied c.in-Some.is) here in
    fed x u bytes c.args.piece.now c.args.out.now.items c.fed.new.out.items c.in-Some.transcoder.now c.in-Ok.next reads
    c.requires c.in-Ok.ensures.no_fault c.in-Ok.ensures.next c.in-Ok.ensures.added

pub returns-in-Err-Unencodable-clause-reads : goal.returns-in-Err-Unencodable-clause-reads
returns-in-Err-Unencodable-clause-reads c u bytes still here =
    let x = c.args.indexes.now in
    let t = c.in-Some.transcoder.now in
    let reads = subst (IsStateAfter x u bytes) (sym c.transcoder.ensures ∙ ap option_copied c.in-Some.is) here in
    record {
      state_after = λ _. piece_fault x u bytes t reads c.args.piece.now c.in-Err-Unencodable.field-0-0
          (code_fault c.in-Err-Unencodable.field-0 c.in-Err-Unencodable.field-0-0
          (added (tables x) t.transcoder c.args.piece.now) _ _ c.in-Err-Unencodable.field-0-is
          c.in-Err-Unencodable.ensures.refused);
      adds = tt;
    }
