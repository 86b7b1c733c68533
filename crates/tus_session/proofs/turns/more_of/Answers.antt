use Rattle.std.proofs.lemmas.Result.{err_from_is_err_and}
use Rattle.tus_request.specs.Buffers.{head_bytes}
use Rattle.tus_session.specs.Represents.{IsGivingText}
use Rattle.tus_session.proofs.Mores.{more_nothing, more_some, more_done, more_gone, more_stopped}
use Rattle.tus_session.proofs.turns.more_of.Goals as goal

pub returns-in_default-clause-answer : goal.returns-in_default-clause-answer
returns-in_default-clause-answer g c sure w conn represents link =
    rw c.waits.ensures (more_nothing g.U.Uploads sure _ w c.args.link conn _ represents link c.in_default.not-Text)

pub returns-in-Piece-clause-answer : goal.returns-in-Piece-clause-answer
returns-in-Piece-clause-answer g c sure w conn represents link =
    let is : IsGivingText w conn (head_bytes c.args.link.head) c.in-Text.giving c.in-Text.left =
    rw c.in-Text.is at link in
    let a = rw c.in-Piece.is at (c.in_ok-given.ensures.answer sure w is.h represents is.gives) in
    rw c.waits-in-Piece.ensures
    (more_some g.U.Uploads sure _ w c.args.link.head conn c.in-Text.giving _ a.0 is _ _ c.in-Piece.giving a.1)

pub returns-in-Last-clause-answer : goal.returns-in-Last-clause-answer
returns-in-Last-clause-answer g c sure w conn represents link =
    let is : IsGivingText w conn (head_bytes c.args.link.head) c.in-Text.giving c.in-Text.left =
    rw c.in-Text.is at link in
    let a = rw c.in-Last.is at (c.in_ok-given.ensures.answer sure w is.h represents is.gives) in
    rw (c.after_reply.ensures, c.gave.ensures)
    (more_done g.U.Uploads sure _ w c.args.link.head conn c.in-Text.giving _ a.0 is _ _ a.1)

pub returns-in-Gone-clause-answer : goal.returns-in-Gone-clause-answer
returns-in-Gone-clause-answer g c sure w conn represents link =
    let is : IsGivingText w conn (head_bytes c.args.link.head) c.in-Text.giving c.in-Text.left =
    rw c.in-Text.is at link in
    let a = rw c.in-Gone.is at (c.in_ok-given.ensures.answer sure w is.h represents is.gives) in
    rw c.gave-in-Gone.ensures (more_gone g.U.Uploads sure _ w c.args.link.head conn c.in-Text.giving _ a.0 is _ _ a.1)

pub returns-in_err-given-clause-answer : goal.returns-in_err-given-clause-answer
returns-in_err-given-clause-answer g c sure w conn represents link =
    let is : IsGivingText w conn (head_bytes c.args.link.head) c.in-Text.giving c.in-Text.left =
    rw c.in-Text.is at link in
    let stopped = err_from_is_err_and c.from_residual.result c.from_residual.ensures.1 in
    rw (stopped.1, stopped.2)
    (more_stopped g.U.Uploads sure _ w conn _ c.in-Text.giving _ is c.in_err-given.field-0.0 _ _ _
    (c.in_err-given.ensures.answer sure w is.h represents is.gives))
