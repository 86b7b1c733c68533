use Rattle.std.proofs.Common.{◌≡◌, ℕ, List, ap, sym, ◌∙◌, subst, take, length, true}
use Rattle.upload_rules.specs.Calls.{create_refusal}
use Rattle.tus_action.specs.Acts.{post, replied}
use Rattle.tus_action.specs.Faults.{reply_fault_of}
use Rattle.tus_request.specs.Replies.{reply_refused}
use Rattle.tus_action.specs.Serves.{RepliesOnly}
use Rattle.tus_action.proofs.Answered.{refused_serves, taken_back}
use Rattle.tus_action.proofs.writes.create.Goals as goal

pub returns-in-Err-clause-answer : goal.returns-in-Err-clause-answer
returns-in-Err-clause-answer g c = λ sure w r represents bare closes.
    let old : List ℕ = c.args.out.now.items in
    let before : ℕ = length c.as_slice-before.result.now in
    let back : c.truncate.new.self.items ≡ old =
    taken_back old _ c.truncate.new.self.items before (ap length c.as_slice-before.ensures.value)
    (c.truncate.ensures.items ∙ ap (λ l. take before l) c.in-Ok.ensures.ok) in
    refused_serves g.U.Uploads sure c.create.new.self w (post w r c.args.new) (create_refusal w c.args.new)
    c.in-Err.error
    c.refused.result true c.args.bare c.args.closes
    old c.refused.new.out.items _
    (λ f. sym (ap (λ b. replied w (reply_refused (reply_fault_of f) true c.args.bare b) b) closes
    ∙ ap (λ b. replied w (reply_refused (reply_fault_of f) true b r.closes) r.closes) bare))
    (c.in-Err.ensures.answer sure w represents)
    (subst (λ l. RepliesOnly c.refused.result c.in-Err.error true c.args.bare c.args.closes l c.refused.new.out.items)
    back
    c.refused.ensures.answer)
