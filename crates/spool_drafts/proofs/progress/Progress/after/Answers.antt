use Rattle.std.proofs.Common.{[], subst}
use Rattle.upload_rules.specs.Texts.{HoldsText}
use Rattle.spool_drafts.proofs.progress.Progress.after.Goals as goal

pub returns-in-Growing-clause-state_after : goal.returns-in-Growing-clause-state_after
returns-in-Growing-clause-state_after c x n u represents none valid =
    ((subst (HoldsText x u []) c.in-Growing.is (c.after.ensures.holds x n u represents none valid)).0, tt)

pub returns-in-Unencodable-clause-state_after : goal.returns-in-Unencodable-clause-state_after
returns-in-Unencodable-clause-state_after c x n u represents none valid =
    (λ still. subst (HoldsText x u []) c.in-Unencodable.is (c.after.ensures.holds x n u represents none valid), tt)

pub returns-in-Complete-clause-state_after : goal.returns-in-Complete-clause-state_after
returns-in-Complete-clause-state_after c x n u represents none valid =
    let complete = subst (HoldsText x u []) c.in-Complete.is (c.after.ensures.holds x n u represents none valid) in
    (λ still. absurd cc, complete)
