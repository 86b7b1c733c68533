use Rattle.std.proofs.Common.{◌*◌, ◌∙◌, ap, refl, Err}
use Rattle.spool_journal.specs.declared.TheConstants.{PAGE}
use Rattle.gateway_run.proofs.Fresh.{no_refusal}
use Rattle.gateway_run.proofs.scripting.spool_in_memory.Goals as goal

pub returns-clause-refused : goal.returns-clause-refused
returns-clause-refused c = let refused = c.in-Err.ensures in
    absurd (no_refusal _ _ (Err c.in-Err.error) c.in_ok-disk.ensures.zeros
    (c.in_ok-disk.ensures.size ∙ ap (λ n. PAGE * n) c.in-Some.ensures.some) refused.counts (refused.already (tt {0}))
    refused.too_long c.in-Err.error refl)
