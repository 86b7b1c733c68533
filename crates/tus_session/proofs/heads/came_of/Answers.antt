use Rattle.std.proofs.Common.{inl, inr, length, true, false, Some, sym, ap, subst, arith}
use Rattle.std.proofs.lemmas.Bool.{cases_lt}
use Rattle.tus_request.specs.Buffers.{head_bytes}
use Rattle.tus_session.specs.Represents.{IsPatching, IsSkipping, IsGivingText}
use Rattle.tus_session.specs.Turned.{TurnedAs}
use Rattle.tus_session.specs.declared.conns.Awaiting.TheVariants.{Text}
use Rattle.tus_action.specs.Acts.{is_pending}
use Rattle.tus_session.proofs.Limiting.{still_limits, limits_to}
use Rattle.tus_session.proofs.Mores.{stays}
use Rattle.tus_session.proofs.BodyResults.{patch_replied, left_wanted, rest_store, skip_replied, text_turn_is}
use Rattle.tus_session.proofs.heads.came_of.Goals as goal

pub returns-in-Head-clause-crash : goal.returns-in-Head-clause-crash
returns-in-Head-clause-crash g c w conn represents link = c.head_of.ensures.crash w conn represents
    (rw c.in-Head.is at link)

pub returns-in-Head-clause-unmade : goal.returns-in-Head-clause-unmade
returns-in-Head-clause-unmade g c w conn represents link none_left =
    c.head_of.ensures.unmade w conn represents (rw c.in-Head.is at link) none_left

pub returns-in-Patch-clause-answer : goal.returns-in-Patch-clause-answer
returns-in-Patch-clause-answer g c sure w conn represents link =
    let b = c.in-Patch.patch in
    let left = c.in-Patch.left in
    let is : IsPatching g.U.Uploads w conn (head_bytes c.args.link.head) b left = rw c.in-Patch.is at link in
    let p = is.patches in
    let all = left_wanted g.U.Uploads sure w conn c.args.link.head b left is in
    let body = c.body_of.ensures in
    patch_replied g.U.Uploads sure w conn c.args.link.head b left is _ _ _ c.args.bytes.now c.body_of.result (record {
      part = λ few. (body.part few sure w is.p represents p.found p.holds (omega arith), body.part_out few);
      rest = λ enough. body.rest enough sure w is.p is.r represents p.found p.holds all p.reached p.bare p.closes;
    })

pub returns-in-Patch-clause-crash : goal.returns-in-Patch-clause-crash
returns-in-Patch-clause-crash g c w conn represents link =
    let b = c.in-Patch.patch in
    let left = c.in-Patch.left in
    let is : IsPatching g.U.Uploads w conn (head_bytes c.args.link.head) b left = rw c.in-Patch.is at link in
    let p = is.patches in
    let all = left_wanted g.U.Uploads true w conn c.args.link.head b left is in
    elim (cases_lt (length c.args.bytes.now) left) [
      | inl few ↦ still_limits _ (c.body_of.ensures.part_crash few w is.p represents p.found p.holds)
      | inr enough ↦
          limits_to (rest_store g.U.Uploads true w conn c.args.link.head b left is c.args.bytes.now enough)
          (c.body_of.ensures.rest_crash enough w is.p is.r represents p.found p.holds (omega arith))
    ]

pub returns-in-Patch-clause-unmade : goal.returns-in-Patch-clause-unmade
returns-in-Patch-clause-unmade g c w conn represents link none_left =
    let b = c.in-Patch.patch in
    let left = c.in-Patch.left in
    let is : IsPatching g.U.Uploads w conn (head_bytes c.args.link.head) b left = rw c.in-Patch.is at link in
    let all = left_wanted g.U.Uploads true w conn c.args.link.head b left is in
    c.body_of.ensures.unmade w is.p represents is.patches.found is.patches.holds (omega arith) none_left

pub returns-in-Skip-clause-answer : goal.returns-in-Skip-clause-answer
returns-in-Skip-clause-answer g c sure w conn represents link =
    let is : IsSkipping w conn (head_bytes c.args.link.head) c.in-Skip.left = rw c.in-Skip.is at link in
    skip_replied g.U.Uploads sure _ w conn c.args.link.head c.in-Skip.left represents is _ _ _ c.args.bytes.now
    c.skip.ensures.link c.skip.ensures.answer

pub returns-in-Text-clause-answer : goal.returns-in-Text-clause-answer
returns-in-Text-clause-answer g c sure w conn represents link =
    let g' = c.in-Text.giving in
    let is : IsGivingText w conn (head_bytes c.args.link.head) g' c.in-Text.left = rw c.in-Text.is at link in
    let k = record c.args.link { awaiting = Text g' c.in-Text.left } in
    let turn = stays g.U.Uploads sure c.args.store.now w k conn true c.args.out.now.items represents is
    (sym (ap is_pending is.pending)) in
    rw c.waits.ensures
    (subst (TurnedAs g.U.Uploads sure c.args.store.now (Some k) (record { taken = 0; closes = false; more = true })
    c.args.out.now.items c.args.out.now.items w conn.draft)
    (text_turn_is w conn c.args.bytes.now is.h is.pending) turn)
