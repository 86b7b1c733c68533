use Rattle.std.proofs.Common.{◌≤◌, ◌+◌, length, ◌∙◌, arith, true}
use Rattle.std.proofs.lemmas.Result.{err_from_is_err_and}
use Rattle.tus_session.proofs.Feeding.{drop_fed, reached_fed, answered_as, ended_store, fed_store, reply_stops}
use Rattle.tus_session.proofs.Feeding.{stopped_as}
use Rattle.tus_session.proofs.EventResults.{same_stop}
use Rattle.tus_session.proofs.Limiting.{limits_to, quiet_then, limits_from, limits_both}
use Rattle.tus_session.proofs.bodies.last_of.Goals as goal

pub returns-in_err-finish-clause-answer : goal.returns-in_err-finish-clause-answer
returns-in_err-finish-clause-answer g c sure w p r represents found holds all reached bare closes =
    let few : length p.body + length c.args.bytes.now ≤ p.count = omega arith in
    let d = g.U.Uploads.number_of c.args.patch.draft in
    let is = c.in_ok-fed.ensures.answer sure w p represents found holds few in
    let after = is.reached ∙ reached_fed w d p c.args.bytes.now c.args.patch.reached all reached in
    let stopped = err_from_is_err_and c.from_residual-in_err-finish.result c.from_residual-in_err-finish.ensures.1 in
    let answer_is = rw is.number at (c.in_err-finish.ensures.answer sure _ _ r is.shown (rw is.number is.found) is.holds
    after (is.bare ∙ bare) (is.closes ∙ closes)) in
    rw (stopped.1, stopped.2) (stopped_as g.U.Uploads sure _ c.in_err-finish.field-0.0 _ _ _ _ _ _ _ _
    (drop_fed w d p c.args.bytes.now found) answer_is)

pub returns-in_err-fed-clause-answer : goal.returns-in_err-fed-clause-answer
returns-in_err-fed-clause-answer g c sure w p r represents found holds all reached bare closes =
    let few : length p.body + length c.args.bytes.now ≤ p.count = omega arith in
    let stopped = err_from_is_err_and c.from_residual.result c.from_residual.ensures.1 in
    rw (stopped.1, stopped.2) (reply_stops g.U.Uploads sure c.feed.new.store c.args.head _ _ _ c.in_err-fed.field-0.0
    c.args.patch c.args.out.now.items _ _ (c.in_err-fed.ensures.answer sure w p represents found holds few))

pub returns-clause-answer : goal.returns-clause-answer
returns-clause-answer g c sure w p r represents found holds all reached bare closes =
    let few : length p.body + length c.args.bytes.now ≤ p.count = omega arith in
    let d = g.U.Uploads.number_of c.args.patch.draft in
    let is = c.in_ok-fed.ensures.answer sure w p represents found holds few in
    let after = is.reached ∙ reached_fed w d p c.args.bytes.now c.args.patch.reached all reached in
    let answer_is = rw is.number at (c.in_ok-finish.ensures.answer sure _ _ r is.shown (rw is.number is.found) is.holds
    after (is.bare ∙ bare) (is.closes ∙ closes)) in
    answered_as g.U.Uploads sure _ _ _ _ c.args.head _ _ c.args.patch.closes answer_is.0 closes c.after_reply.ensures
    answer_is.1

pub returns-in_err-finish-clause-crash : goal.returns-in_err-finish-clause-crash
returns-in_err-finish-clause-crash g c w p r represents found holds few =
    let d = g.U.Uploads.number_of c.args.patch.draft in
    let is = c.in_ok-fed.ensures.answer true w p represents found holds few in
    limits_to (ended_store w d p c.args.bytes.now r) (quiet_then (c.feed.ensures.crash w p represents found holds)
    (limits_from (fed_store w d c.args.bytes.now)
    (rw is.number at (c.finish.ensures.crash _ _ is.shown (rw is.number is.found) is.holds))))

pub returns-clause-crash : goal.returns-clause-crash
returns-clause-crash g c w p r represents found holds few =
    let d = g.U.Uploads.number_of c.args.patch.draft in
    let is = c.in_ok-fed.ensures.answer true w p represents found holds few in
    limits_to (ended_store w d p c.args.bytes.now r) (quiet_then (c.feed.ensures.crash w p represents found holds)
    (limits_from (fed_store w d c.args.bytes.now)
    (rw is.number at (c.finish.ensures.crash _ _ is.shown (rw is.number is.found) is.holds))))

pub returns-in_err-finish-clause-unmade : goal.returns-in_err-finish-clause-unmade
returns-in_err-finish-clause-unmade g c w p represents found holds few none_left =
    let d = g.U.Uploads.number_of c.args.patch.draft in
    let is = c.in_ok-fed.ensures.answer true w p represents found holds few in
    let stopped = err_from_is_err_and c.from_residual-in_err-finish.result c.from_residual-in_err-finish.ensures.1 in
    let failed = same_stop c.from_residual-in_err-finish.result stopped.0 c.in_err-finish.field-0.0 stopped.1 stopped.2
    none_left in
    quiet_then (c.feed.ensures.crash w p represents found holds) (limits_both (fed_store w d c.args.bytes.now)
    (c.in_err-finish.ensures.unmade _ _ is.shown (rw is.number is.found) is.holds failed))
