use Rattle.std.proofs.lemmas.Result.{err_from_is_err_and}
use Rattle.tus_session.proofs.Feeding.{part_stops}
use Rattle.tus_session.proofs.bodies.go_on.Goals as goal

pub returns-clause-answer : goal.returns-clause-answer
returns-clause-answer g c sure w p represents found holds few = (
  c.in_ok-patch.patch,
  assumption (
    c.in_ok-patch.ensures.answer sure w p represents found holds few,
    c.waits.ensures,
  ),
)

pub returns-in_err-patch-clause-answer : goal.returns-in_err-patch-clause-answer
returns-in_err-patch-clause-answer g c sure w p represents found holds few =
    let stopped = err_from_is_err_and c.from_residual.result c.from_residual.ensures.1 in
    rw (stopped.1, stopped.2) (part_stops g.U.Uploads sure c.feed.new.store c.args.head _ _ _ c.in_err-patch.field-0.0
    c.args.patch _ _ (c.in_err-patch.ensures.answer sure w p represents found holds few))
