use Rattle.std.proofs.Common.{refl, arith, true}
use Rattle.std.proofs.lemmas.Result.{err_from_is_err_and}
use Rattle.tus_request.specs.Shown.{request_shown}
use Rattle.tus_action.specs.declared.bodies.OpenPatch.{OpenPatch}
use Rattle.tus_session.proofs.Feeding.{head_stopped}
use Rattle.tus_session.proofs.HeadResults.{slice_is, slice_rest, head_limits, nothing_replied, text_recorded, begun}
use Rattle.tus_session.proofs.HeadResults.{patch_opened}
use Rattle.tus_session.proofs.HeadResults.{patch_limits}
use Rattle.tus_session.proofs.heads.request_of.Goals as goal

pub returns-in_err-done-clause-crash : goal.returns-in_err-done-clause-crash
returns-in_err-done-clause-crash g c w conn h n represents is =
    head_limits w conn h _ n _ _ is (c.act.ensures.crash w represents)

pub returns-in_err-done-clause-answer : goal.returns-in_err-done-clause-answer
returns-in_err-done-clause-answer g c sure w conn h n represents is =
    let stopped = err_from_is_err_and c.from_residual.result c.from_residual.ensures.1 in
    rw (stopped.1, stopped.2) (head_stopped g.U.Uploads sure _ c.in_err-done.field-0.0 _ _ w conn _ _ is.inside.draft
    (c.in_err-done.ensures.answer sure w represents))

pub returns-in-Replied-clause-crash : goal.returns-in-Replied-clause-crash
returns-in-Replied-clause-crash g c w conn h n represents is =
    head_limits w conn h _ n _ _ is (c.act.ensures.crash w represents)

pub returns-in-Giving-clause-crash : goal.returns-in-Giving-clause-crash
returns-in-Giving-clause-crash g c w conn h n represents is =
    head_limits w conn h _ n _ _ is (c.act.ensures.crash w represents)

pub returns-in-Replied-clause-answer : goal.returns-in-Replied-clause-answer
returns-in-Replied-clause-answer g c sure w conn h n represents is =
    nothing_replied w conn h c.args.bytes.now n c.args.before _ is g.U.Uploads sure _ _ _ c.in-Replied.closes _ _
    c.args.head _ (rw c.in-Replied.is at (c.in_ok-done.ensures.answer sure w represents))
    (slice_rest c.args.before c.args.bytes.now) c.skip.ensures.link c.requires.cleared c.skip.ensures.answer

pub returns-in-Giving-clause-answer : goal.returns-in-Giving-clause-answer
returns-in-Giving-clause-answer g c sure w conn h n represents is =
    rw c.waits.ensures
    (text_recorded w conn h c.args.bytes.now n c.args.before _ is g.U.Uploads sure _ c.in-Giving.giving _ _ c.args.head
    (rw c.in-Giving.is at (c.in_ok-done.ensures.answer sure w represents)) c.requires.cleared)

pub returns-in-Opened-clause-answer : goal.returns-in-Opened-clause-answer
returns-in-Opened-clause-answer g c sure w conn h n represents is =
    let r = request_shown c.args.request in
    let b : OpenPatch g.row.U-Draft.Denot = record {
      draft = c.in-Opened.draft;
      reached = c.reached_by-reached.result;
      bare = c.args.request.bare;
      closes = c.args.request.closes;
    } in
    let x = begun g.U.Uploads sure w r _ c.act.new.store _ _ b
    (rw c.in-Opened.is at (c.in_ok-done.ensures.answer sure w represents))
    (c.reached_by-reached.ensures c.requires.small)
    refl refl (λ n up there. g.met.U.Uploads.below c.args.store.now sure w n up represents there) in
    let p = x.patches in
    let body = c.body_of-turned.ensures in
    rw c.back_to.ensures.same
    (patch_opened g.U.Uploads sure w conn h c.args.bytes.now n c.args.before _ is b c.act.new.store _ _ x
    c.body_of-turned.new.store c.body_of-turned.new.out.items c.back_to.new.out.items c.args.head c.requires.cleared
    c.len-start.result (omega (arith, c.len-start.ensures, c.args.out.now.ok.0)) c.body_of-turned.result _
    (slice_is c.args.before c.args.bytes.now)
    (record {
      part = λ few. (body.part few sure _ _ x.shown p.found p.holds (omega arith), body.part_out few);
      rest = λ enough. body.rest enough sure _ _ r x.shown p.found p.holds x.wanted p.reached refl refl;
    }) c.back_to.ensures.back)

pub returns-in-Opened-clause-crash : goal.returns-in-Opened-clause-crash
returns-in-Opened-clause-crash g c w conn h n represents is =
    let r = request_shown c.args.request in
    let b : OpenPatch g.row.U-Draft.Denot = record {
      draft = c.in-Opened.draft;
      reached = c.reached_by-reached.result;
      bare = c.args.request.bare;
      closes = c.args.request.closes;
    } in
    let x = begun g.U.Uploads true w r _ c.act.new.store _ _ b
    (rw c.in-Opened.is at (c.in_ok-done.ensures.answer true w represents))
    (c.reached_by-reached.ensures c.requires.small)
    refl refl (λ n up there. g.met.U.Uploads.below c.args.store.now true w n up represents there) in
    let p = x.patches in
    patch_limits g.U.Uploads true w conn h c.args.bytes.now n c.args.before _ is b c.act.new.store _ _ x _
    (slice_is c.args.before c.args.bytes.now) (c.act.ensures.crash w represents)
    (λ few. c.body_of-turned.ensures.part_crash few _ _ x.shown p.found p.holds)
    (λ enough. c.body_of-turned.ensures.rest_crash enough _ _ r x.shown p.found p.holds (omega arith))
