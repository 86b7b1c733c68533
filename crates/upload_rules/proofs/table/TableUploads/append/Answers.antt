use Rattle.std.proofs.Common.{◌++◌, Err, ap, sym, ◌∙◌}
use Rattle.std.proofs.lemmas.Result.{err_from_is_err_and}
use Rattle.upload_rules.proofs.Refusals.{append_is, fed, not_fed}
use Rattle.upload_rules.proofs.Stops.{nothing_done}
use Rattle.upload_rules.proofs.table.TableUploads.append.Goals as goal

pub returns-in_err-outcome-clause-answer : goal.returns-in_err-outcome-clause-answer
returns-in_err-outcome-clause-answer c = λ sure w p represents there holds held.
    let t = c.args.self.now in
    let d = c.args.draft.now.number in
    let o = c.in-Some.append in
    let new = c.feed-outcome.new.self in
    let e = err_from_is_err_and c.from_residual.result c.from_residual.ensures.1 in
    let before = rw (sym represents.indexes) at (append_is t w represents d p there o c.in-Some.ensures.taken) in
    let after = rw (c.in_err-outcome.was, represents.indexes) at (c.feed-outcome.ensures.err w.store.next p before) in
    nothing_done c.from_residual.result _ (e.1 ∙ ap Err e.2)
    (not_fed t w represents d p there o c.in-Some.ensures.taken c.taken.new.drafts c.put_back.new.drafts new
    c.in-Some.ensures.after c.put_back.ensures after)

pub returns-clause-answer : goal.returns-clause-answer
returns-clause-answer c = λ sure w p represents there holds held.
    let t = c.args.self.now in
    let d = c.args.draft.now.number in
    let o = c.in-Some.append in
    let new = c.feed-outcome.new.self in
    let before = rw (sym represents.indexes) at (append_is t w represents d p there o c.in-Some.ensures.taken) in
    let after = rw (c.in_ok-outcome.was, represents.indexes) at (c.feed-outcome.ensures.ok w.store.next p before held)
    in (
      tt,
      fed t w represents d p there o c.in-Some.ensures.taken c.taken.new.drafts c.put_back.new.drafts new
          c.in-Some.ensures.after c.put_back.ensures c.args.piece.now
          after,
    )
