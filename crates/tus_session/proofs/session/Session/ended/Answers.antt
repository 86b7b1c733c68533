use Rattle.std.proofs.Common.{sym, ap, true}
use Rattle.std.proofs.lemmas.Result.{err_from_is_err_and}
use Rattle.tus_session.specs.History.{Ended}
use Rattle.tus_session.proofs.EventResults.{stop_is, no_memory, ended_step, none_open, ends, ends_stopped}
use Rattle.tus_session.proofs.Limiting.{limits_to}
use Rattle.tus_session.proofs.session.Session.ended.Goals as goal

pub returns-in_err-link-clause-answer : goal.returns-in_err-link-clause-answer
returns-in_err-link-clause-answer g c sure st represents =
    let stop = err_from_is_err_and c.from_residual.result c.from_residual.ensures.1 in
    let none = c.in_err-link.ensures.closed sure c.args.store.now st represents in
    rw (stop.1, stop.2, c.in_err-link.ensures.refusal)
    (none_open g.U.Uploads sure _ _ st (Ended c.args.conn) none.1 tt none.0)

pub returns-in_err-end_of-clause-answer : goal.returns-in_err-end_of-clause-answer
returns-in_err-end_of-clause-answer g c sure st represents =
    let o = c.in_ok-link.ensures.open sure c.args.store.now st represents in
    rw (stop_is c.from_residual-in_err-end_of.result c.in_err-end_of.field-0.0 c.from_residual-in_err-end_of.ensures.1)
    (ends_stopped g.U.Uploads sure _ _ _ _ st (Ended c.args.conn) o.0 represents tt o.1 c.in_err-end_of.field-0.0
    c.in_ok-link.ensures.taken (c.in_err-end_of.ensures.answer sure st.world o.0 represents.shown o.2))

pub returns-in_err-end_of-clause-crash : goal.returns-in_err-end_of-clause-crash
returns-in_err-end_of-clause-crash g c st represents =
    let o = c.in_ok-link.ensures.open true c.args.store.now st represents in
    limits_to (ap (λ x. x.state.world.store) (sym (ended_step st c.args.conn o.0 o.1)))
    (c.end_of.ensures.crash st.world o.0 represents.shown o.2)

pub returns-in_err-end_of-clause-unmade : goal.returns-in_err-end_of-clause-unmade
returns-in_err-end_of-clause-unmade g c st represents none_left =
    let o = c.in_ok-link.ensures.open true c.args.store.now st represents in
    let stop = c.in_err-end_of.field-0.0 in
    let is = stop_is c.from_residual-in_err-end_of.result stop c.from_residual-in_err-end_of.ensures.1 in
    c.in_err-end_of.ensures.unmade st.world o.0 represents.shown o.2 (no_memory stop (rw is at none_left))

pub returns-clause-answer : goal.returns-clause-answer
returns-clause-answer g c sure st represents =
    let o = c.in_ok-link.ensures.open sure c.args.store.now st represents in
    ends g.U.Uploads sure _ _ _ _ st (Ended c.args.conn) o.0 represents tt o.1 c.in_ok-link.ensures.taken
    (ended_step st c.args.conn o.0 o.1) (c.in_ok-end_of.ensures.answer sure st.world o.0 represents.shown o.2)

pub returns-clause-crash : goal.returns-clause-crash
returns-clause-crash g c st represents =
    let o = c.in_ok-link.ensures.open true c.args.store.now st represents in
    limits_to (ap (λ x. x.state.world.store) (sym (ended_step st c.args.conn o.0 o.1)))
    (c.end_of.ensures.crash st.world o.0 represents.shown o.2)
