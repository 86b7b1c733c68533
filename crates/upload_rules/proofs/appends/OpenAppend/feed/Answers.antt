use Rattle.std.proofs.Common.{sym, arith}
use Rattle.upload_rules.specs.declared.new_text.NewText.{NewText}
use Rattle.upload_rules.proofs.Commits.{with_text, with_piece, in_any_case}
use Rattle.upload_rules.proofs.appends.OpenAppend.feed.Goals as goal

pub returns-in_err-outcome-clause-err : goal.returns-in_err-outcome-clause-err
returns-in_err-outcome-clause-err c = λ next p represents.
    let x = c.args.indexes.now in
    let text : NewText = c.with-text.result.0 in
    let before = rw (sym c.replace-text.ensures.value) at represents.text in
    let after = rw c.in_err-outcome.was at (c.with-text.ensures.err p.began p.body before) in
    in_any_case c.from_residual.result (with_text x next p c.args.self.now represents text after)

pub returns-clause-ok : goal.returns-clause-ok
returns-clause-ok c = λ next p represents held.
    let x = c.args.indexes.now in
    let text : NewText = c.with-text.result.0 in
    let before = rw (sym c.replace-text.ensures.value) at represents.text in
    let after = rw c.in_ok-outcome.was at (c.with-text.ensures.ok p.began p.body before) in
    with_piece x next p c.args.self.now represents c.args.piece.now c.saturating_add-self.result text held
    (omega (arith, c.saturating_add-self.ensures, represents.came, held, represents.within, represents.fits)) after
