use Rattle.std.proofs.Common.{◌≡◌, ℕ, false, nat_eq, arith}
use Rattle.std.proofs.lemmas.Bool.Decides.{nat_tests}
use Rattle.spool_journal.proofs.Ranks.{not_there}
use Rattle.spool_journal.proofs.pages.Pages.has.Goals as goal

differ : (a b : ℕ) → nat_eq a b ≡ false → a ≡ b → ⊥
differ a b other is = grind (arith, nat_tests)

pub returns-then-at-items-clause-missing : goal.returns-then-at-items-clause-missing
returns-then-at-items-clause-missing c other =
    let same = c.items-items.ensures.same in
    rw same at (not_there c.items-items.result.now (rw same c.items-items.ensures.ascends) c.args.page
    c.rank-at.result c.rank-at.ensures.below c.rank-at.ensures.above (λ lt is. differ _ _ other is))
