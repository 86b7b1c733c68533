use Rattle.std.proofs.Common.{refl}
use Rattle.std.proofs.lemmas.Result.{err_from_is_err_and}
use Rattle.tus_session.specs.Turns.{more_turn}
use Rattle.tus_session.specs.History.{More}
use Rattle.tus_session.proofs.InPlace.{is_put_back}
use Rattle.tus_session.proofs.EventResults.{stop_is, more_is, none_open, given, stopped}
use Rattle.tus_session.proofs.session.Session.more.Goals as goal

pub returns-in_err-link-clause-answer : goal.returns-in_err-link-clause-answer
returns-in_err-link-clause-answer g c sure st represents =
    let stop = err_from_is_err_and c.from_residual.result c.from_residual.ensures.1 in
    let none = c.in_err-link.ensures.closed sure c.args.store.now st represents in
    rw (stop.1, stop.2, c.in_err-link.ensures.refusal)
    (none_open g.U.Uploads sure _ _ st (More c.args.conn) none.1 tt none.0, refl)

pub returns-in_err-next-clause-answer : goal.returns-in_err-next-clause-answer
returns-in_err-next-clause-answer g c sure st represents =
    let o = c.in_ok-link.ensures.open sure c.args.store.now st represents in
    rw (stop_is c.from_residual-in_err-next.result c.in_err-next.field-0.0 c.from_residual-in_err-next.ensures.1)
    (stopped g.U.Uploads sure _ _ _ _ st (More c.args.conn) o.0 represents tt o.1 (more_turn st.world o.0)
    c.in_err-next.field-0.0 _ _ c.in_ok-link.ensures.taken
    (c.in_err-next.ensures.answer sure st.world o.0 represents.shown o.2))

pub returns-clause-answer : goal.returns-clause-answer
returns-clause-answer g c sure st represents =
    let o = c.in_ok-link.ensures.open sure c.args.store.now st represents in
    rw c.put_back.ensures
    (given g.U.Uploads sure _ _ _ _ st (More c.args.conn) o.0 represents tt o.1 c.in_ok-next.next
    (more_turn st.world o.0) c.in_ok-next.answer _ _
    (is_put_back g.U.Uploads sure _ _ c.args.conn c.in_ok-next.next c.in_ok-link.ensures.taken
    c.in_ok-link.ensures.within)
    (more_is st c.args.conn o.0 o.1) (c.in_ok-next.ensures.answer sure st.world o.0 represents.shown o.2))
