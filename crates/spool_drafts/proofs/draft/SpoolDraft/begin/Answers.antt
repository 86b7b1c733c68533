use Rattle.std.proofs.Common.{Err, refl, sym, ap, subst, ◌∙◌}
use Rattle.std.proofs.lemmas.Result.{err_from_is_err_and}
use Rattle.spool_drafts.specs.Drafts.{IsBegun}
use Rattle.spool_drafts.proofs.Begins.{begins, begins_carries, open_still}
use Rattle.spool_drafts.proofs.draft.SpoolDraft.begin.Goals as goal

pub returns-in_err-admits-clause-begun : goal.returns-in_err-admits-clause-begun
returns-in_err-admits-clause-begun c x n u valid_record =
    let e = err_from_is_err_and c.from_residual.result c.from_residual.ensures.1 in
    subst (IsBegun x n c.args.offset c.args.count c.args.declare u) (sym (e.1 ∙ ap Err e.2))
    (c.in_err-admits.ensures.rules x n u valid_record.represents)

pub returns-clause-begun : goal.returns-clause-begun
returns-clause-begun c x n u valid_record =
    let state = c.after.ensures.state_after x n u valid_record.represents valid_record.encodable
    valid_record.valid in (
      c.in_ok-admits.ensures.rules x n u valid_record.represents,
      begins x u n c.args.count c.args.declare c.args.upload.now c.args.list.now c.args.offset c.after.result
          valid_record
          (c.in_ok-admits.ensures.room refl) (c.in_ok-admits.ensures.small refl)
          state.0 state.1
          (λ growing. open_still x u n c.args.count c.args.declare c.args.upload.now valid_record
          (c.after.ensures.room growing))
          c.after.ensures.starts,
    )

pub returns-clause-content : goal.returns-clause-content
returns-clause-content c x n u current first valid_record same =
    begins_carries x u n c.args.count c.args.declare current first c.args.upload.now.text_len c.args.list.now
    c.after.result c.requires.long c.after.ensures.starts same valid_record.represents.text_len
    (λ growing. open_still x u n c.args.count c.args.declare c.args.upload.now valid_record
    (c.after.ensures.room growing))
