use Rattle.std.proofs.Common.{◌≡◌, ◌++◌, ℕ, List, ap, sym, ◌∙◌, subst, take, length, false, Err, true}
use Rattle.upload_rules.specs.Calls.{commit_refusal, committed_store, dropped}
use Rattle.tus_action.specs.Acts.{committed_as, replied}
use Rattle.tus_action.specs.Faults.{reply_fault_of}
use Rattle.tus_request.specs.Replies.{reply_patched, reply_refused}
use Rattle.upload_rules.specs.World.{reached}
use Rattle.tus_action.specs.Serves.{RepliesTo}
use Rattle.tus_action.proofs.Answered.{refused_finishes, taken_back, nothing_made}
use Rattle.tus_action.proofs.bodies.finish.Goals as goal

pub returns-in-Err-clause-answer : goal.returns-in-Err-clause-answer
returns-in-Err-clause-answer g c = λ sure w p r represents found holds at_end bare closes.
    let old : List ℕ = c.args.out.now.items in
    let before : ℕ = length c.as_slice-before.result.now in
    let d : ℕ = g.U.Uploads.number_of c.args.patch.draft in
    let back : c.truncate.new.self.items ≡ old =
    taken_back old _ c.truncate.new.self.items before (ap length c.as_slice-before.ensures.value)
    (c.truncate.ensures.items ∙ ap (λ l. take before l) c.in-Ok.ensures.ok) in
    refused_finishes g.U.Uploads sure c.commit.new.self (dropped w d) (committed_as w d p r) (commit_refusal w d p)
    c.in-Err.error c.refuse.result false c.args.patch.bare c.args.patch.closes
    old c.refuse.new.out.items _
    (λ f. sym (ap (λ b. replied (dropped w d) (reply_refused (reply_fault_of f) false c.args.patch.bare b) b) closes
    ∙ ap (λ b. replied (dropped w d) (reply_refused (reply_fault_of f) false b r.closes) r.closes) bare))
    (c.in-Err.ensures.answer sure w p represents found holds)
    (subst (λ l. RepliesTo c.refuse.result c.in-Err.error false c.args.patch.bare c.args.patch.closes l
    c.refuse.new.out.items) back
    c.refuse.ensures.answer)

pub returns-in-Err-clause-unmade : goal.returns-in-Err-clause-unmade
returns-in-Err-clause-unmade g c = λ w p represents found holds is.
    let d : ℕ = g.U.Uploads.number_of c.args.patch.draft in
    nothing_made w.store (committed_store w.store p) (commit_refusal w d p) c.in-Err.error c.refuse.result false
    c.args.patch.bare c.args.patch.closes _ _ _ _
    (c.in-Err.ensures.answer true w p represents found holds) c.refuse.ensures.answer is
    (c.in-Err.ensures.crash w p represents found holds)
    (λ none. c.in-Err.ensures.unmade w p represents found holds (ap Err none))

pub returns-in-Ok-commit-clause-answer : goal.returns-in-Ok-commit-clause-answer
returns-in-Ok-commit-clause-answer g c = λ sure w p r represents found holds at_end bare closes.
    let d : ℕ = g.U.Uploads.number_of c.args.patch.draft in
    let a = c.in-Ok-commit.ensures.answer sure w p represents found holds in
    let reply = c.in-Ok.ensures.ok ∙ ap (λ n. c.args.out.now.items ++ reply_patched n c.args.patch.closes) at_end
    ∙ ap (λ b. c.args.out.now.items ++ reply_patched (reached p) b) closes in
    subst (λ x. g.U.Uploads.represents c.commit.new.self sure (committed_as w d p r x).world
    × (c.reply_patched.new.out.items ≡ c.args.out.now.items ++ (committed_as w d p r x).bytes)) (sym a.0) (a.1.1, reply)
