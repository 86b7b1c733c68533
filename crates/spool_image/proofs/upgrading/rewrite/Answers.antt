use Rattle.std.proofs.Common.{◌≡◌, rules, subst, sym}
use Rattle.spool_journal.specs.Image.{journal_pages, laid, InArea}
use Rattle.spool_journal.specs.Phases.{Settled}
use Rattle.spool_pages.specs.Changes.{upgraded}
use Rattle.spool_image.proofs.Upgraded.{rests_texts}
use Rattle.spool_image.proofs.upgrading.rewrite.Goals as goal

pub returns-clause-done : goal.returns-clause-done
returns-clause-done g c honest v has_view rests =
    let same_blocks = has_view.blocks in
    let same : v.blocks ≡ c.layout.result.now = search rules in
    c.in_ok-change.ensures.done honest v (upgraded v) same rests
    (c.in_ok-pages.ensures.changes v has_view) (rests_texts v rests)

pub returns-clause-lasts : goal.returns-clause-lasts
returns-clause-lasts g c honest v has_view rests =
    let same_blocks = has_view.blocks in
    let same : v.blocks ≡ c.layout.result.now = search rules in
    c.change.ensures.lasts honest v (upgraded v) same rests (c.in_ok-pages.ensures.changes v has_view)
    (rests_texts v rests)

pub returns-in_err-change-clause-lasts : goal.returns-in_err-change-clause-lasts
returns-in_err-change-clause-lasts g c honest v has_view rests =
    let same_blocks = has_view.blocks in
    let same : v.blocks ≡ c.layout.result.now = search rules in
    c.change.ensures.lasts honest v (upgraded v) same rests (c.in_ok-pages.ensures.changes v has_view)
    (rests_texts v rests)

pub returns-clause-commit : goal.returns-clause-commit
returns-clause-commit g c honest v has_view rests =
    let same_blocks = has_view.blocks in
    let same : v.blocks ≡ c.layout.result.now = search rules in
    record {
      pages = c.in_ok-pages.pages;
      count = c.in_ok-pages.ensures.count;
      area = subst (λ n. InArea (journal_pages n) c.in_ok-pages.pages) same_blocks c.in_ok-pages.ensures.area;
      changes = c.in_ok-pages.ensures.changes v has_view;
      settled = subst
          (λ n. Settled (journal_pages n) (laid c.in_ok-pages.pages (g.D.Disk.current c.args.disk.now))
          (g.D.Disk.current c.change.new.disk) (g.D.Disk.unsynced c.change.new.disk)) (sym same)
          (c.in_ok-change.ensures.laid honest v same rests);
    }
