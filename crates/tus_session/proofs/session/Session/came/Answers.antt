use Rattle.std.proofs.Common.{sym, ap, refl, true}
use Rattle.std.proofs.lemmas.Result.{err_from_is_err_and}
use Rattle.tus_session.specs.Turns.{came_turn}
use Rattle.tus_session.specs.History.{Came}
use Rattle.tus_session.proofs.InPlace.{is_put_back}
use Rattle.tus_session.proofs.EventResults.{stop_is, no_memory, came_is, none_open, given, stopped}
use Rattle.tus_session.proofs.Limiting.{limits_to}
use Rattle.tus_session.proofs.session.Session.came.Goals as goal

pub returns-in_err-link-clause-answer : goal.returns-in_err-link-clause-answer
returns-in_err-link-clause-answer g c sure st represents =
    let stop = err_from_is_err_and c.from_residual.result c.from_residual.ensures.1 in
    let none = c.in_err-link.ensures.closed sure c.args.store.now st represents in
    rw (stop.1, stop.2, c.in_err-link.ensures.refusal)
    (none_open g.U.Uploads sure _ _ st (Came c.args.conn c.args.bytes.now) none.1 tt none.0, refl)

pub returns-in_err-next-clause-answer : goal.returns-in_err-next-clause-answer
returns-in_err-next-clause-answer g c sure st represents =
    let o = c.in_ok-link.ensures.open sure c.args.store.now st represents in
    rw (stop_is c.from_residual-in_err-next.result c.in_err-next.field-0.0 c.from_residual-in_err-next.ensures.1)
    (stopped g.U.Uploads sure _ _ _ _ st (Came c.args.conn c.args.bytes.now) o.0 represents tt o.1
    (came_turn st.world o.0
    c.args.bytes.now)
    c.in_err-next.field-0.0 _ _ c.in_ok-link.ensures.taken
    (c.in_err-next.ensures.answer sure st.world o.0 represents.shown o.2))

pub returns-clause-answer : goal.returns-clause-answer
returns-clause-answer g c sure st represents =
    let o = c.in_ok-link.ensures.open sure c.args.store.now st represents in
    rw c.put_back.ensures
    (given g.U.Uploads sure _ _ _ _ st (Came c.args.conn c.args.bytes.now) o.0 represents tt o.1 c.in_ok-next.next
    (came_turn st.world o.0 c.args.bytes.now) c.in_ok-next.answer _ _
    (is_put_back g.U.Uploads sure _ _ c.args.conn c.in_ok-next.next c.in_ok-link.ensures.taken
    c.in_ok-link.ensures.within)
    (came_is st c.args.conn c.args.bytes.now o.0 o.1) (c.in_ok-next.ensures.answer sure st.world o.0 represents.shown
    o.2))

pub returns-in_err-next-clause-crash : goal.returns-in_err-next-clause-crash
returns-in_err-next-clause-crash g c st represents =
    let o = c.in_ok-link.ensures.open true c.args.store.now st represents in
    limits_to (ap (λ x. x.state.world.store) (sym (came_is st c.args.conn c.args.bytes.now o.0 o.1).step_is))
    (c.came_of.ensures.crash st.world o.0 represents.shown o.2)

pub returns-clause-crash : goal.returns-clause-crash
returns-clause-crash g c st represents =
    let o = c.in_ok-link.ensures.open true c.args.store.now st represents in
    limits_to (ap (λ x. x.state.world.store) (sym (came_is st c.args.conn c.args.bytes.now o.0 o.1).step_is))
    (c.came_of.ensures.crash st.world o.0 represents.shown o.2)

pub returns-in_err-next-clause-unmade : goal.returns-in_err-next-clause-unmade
returns-in_err-next-clause-unmade g c st represents none_left =
    let o = c.in_ok-link.ensures.open true c.args.store.now st represents in
    let stop = c.in_err-next.field-0.0 in
    let is = stop_is c.from_residual-in_err-next.result stop c.from_residual-in_err-next.ensures.1 in
    c.in_err-next.ensures.unmade st.world o.0 represents.shown o.2 (no_memory stop (rw is at none_left))
