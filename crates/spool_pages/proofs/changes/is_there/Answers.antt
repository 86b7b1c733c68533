use Rattle.std.proofs.Common.{◌≡◌, ℕ, Bool, false, IsTrue, IsSome, List, None, arith}
use Rattle.std.proofs.lemmas.Bool.Decides.{nat_tests}
use Rattle.spool_pages.specs.Changes.{page_in}
use Rattle.spool_pages.proofs.PageIn.{none_by_number, some_by_number}
use Rattle.spool_pages.proofs.changes.is_there.Goals as goal

pub returns-then-page-last : goal.returns-then-page-last
returns-then-page-last c = (λ _. rw c.if-page-last.true c.requires, λ _. grind (arith, nat_tests, c.if-page-last.true))

found : (page : ℕ) (pages : List (ℕ × List ℕ)) (there : Bool) → (there ≡ false → page_in page pages ≡ None)
    → IsSome (page_in page pages) → IsTrue there
found page pages there missing some = grind arith

pub returns-else-page-last : goal.returns-else-page-last
returns-else-page-last c = (
  λ there.
      let entry = c.has.ensures.there there in
      some_by_number c.args.page c.args.pages.now entry.0 entry.1.0 entry.1.1,
  found c.args.page c.args.pages.now c.has.result
      (λ other. none_by_number c.args.page c.args.pages.now (c.has.ensures.missing other)),
)
