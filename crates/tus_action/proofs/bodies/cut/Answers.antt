use Rattle.std.proofs.Common.{subst, sym}
use Rattle.upload_rules.specs.Calls.{spent}
use Rattle.tus_action.proofs.Answered.{spent_refused, refused_answer, stops_ends}
use Rattle.tus_action.proofs.bodies.cut.Goals as goal

pub returns-in-Err-Refused-clause-answer : goal.returns-in-Err-Refused-clause-answer
returns-in-Err-Refused-clause-answer g c = λ sure w p represents found holds.
    let a = refused_answer _ _ _ _ _ c.in-Err-Refused.field-0-is
    (c.in-Err-Refused.ensures.answer sure w p represents found holds) in
    spent_refused (λ v. g.U.Uploads.represents c.commit.new.self sure v) w _ p _ _ a.0 a.1

pub returns-in-Err-Stop-clause-answer : goal.returns-in-Err-Stop-clause-answer
returns-in-Err-Stop-clause-answer g c = λ sure w p represents found holds.
    stops_ends g.U.Uploads sure c.commit.new.self _ _ c.in-Err-Stop.stop _ _ _ c.in-Err-Stop.field-0-is
    (c.in-Err-Stop.ensures.answer sure w p represents found holds)

pub returns-in-Ok-clause-answer : goal.returns-in-Ok-clause-answer
returns-in-Ok-clause-answer g c = λ sure w p represents found holds.
    let d = g.U.Uploads.number_of c.args.patch.draft in
    let a = c.in-Ok.ensures.answer sure w p represents found holds in
    subst (λ r. g.U.Uploads.represents c.commit.new.self sure (spent w d p r)) (sym a.0) a.1.1
