use Rattle.std.proofs.Common.{◌≡◌, ◌<◌, ◌≤◌, ◌∙◌, ℕ, Ok, Err, ap, inl, inr, refl, rules, subst, sym, arith}
use Rattle.std.proofs.Math.Nat.{max-eq_right}
use Rattle.std.proofs.lemmas.Result.{err_from_is_err_and}
use Rattle.spool_journal.specs.Image.{journal_pages, laid, InArea}
use Rattle.spool_journal.specs.Phases.{Settled}
use Rattle.spool_pages.specs.Changes.{with_next}
use Rattle.spool_pages.specs.Rests.{Rests}
use Rattle.spool_image.specs.Raise.{MayRaise}
use Rattle.spool_image.proofs.Raised.{leaves_either, own_later}
use Rattle.spool_image.proofs.Upgraded.{rests_texts}
use Rattle.spool_image.proofs.raising.put_next.Goals as goal

pub returns-then-number-next-clause-later : goal.returns-then-number-next-clause-later
returns-then-number-next-clause-later g c =
    let same = c.next_number-next.ensures.same in
    let le : c.args.number ≤ c.next_number-next.result = omega (arith, c.if-number-next.true) in
    same ∙ own_later c.args.catalog.now.next c.args.number (omega (arith, le, same))

pub returns-then-number-next-clause-done : goal.returns-then-number-next-clause-done
returns-then-number-next-clause-done g c honest v has_view rests =
    subst (λ (k : ℕ). Rests (with_next v k) (g.D.Disk.current c.args.disk.now) (g.D.Disk.unsynced c.args.disk.now))
    (sym (c.next_number-next.ensures.same ∙ has_view.next)) rests

pub returns-then-number-next-clause-commit : goal.returns-then-number-next-clause-commit
returns-then-number-next-clause-commit g c honest v has_view rests =
    let same = c.next_number-next.ensures.same ∙ has_view.next in
    let le : c.args.number ≤ c.next_number-next.result = omega (arith, c.if-number-next.true) in
    inl (omega (arith, le, same), refl)

pub returns-in_err-change-clause-lasts : goal.returns-in_err-change-clause-lasts
returns-in_err-change-clause-lasts g c honest v has_view rests =
    let same_blocks = has_view.blocks in
    let same : v.blocks ≡ c.layout.result.now = search rules in
    let next = c.next_number-next.ensures.same ∙ has_view.next in
    let more : c.next_number-next.result < c.args.number = omega (arith, c.if-number-next.false) in
    let e = err_from_is_err_and c.from_residual-in_err-change.result c.from_residual-in_err-change.ensures.1 in
    let may : MayRaise c.from_residual-in_err-change.result = subst MayRaise (sym (e.1 ∙ ap Err e.2)) tt in
    leaves_either g.D.Disk c.args.disk.now c.change.new.disk v c.args.number c.from_residual-in_err-change.result may
    (omega (arith, more, next)) (c.change.ensures.lasts honest v (with_next v c.args.number) same rests
    (c.in_ok-pages.ensures.changes v has_view) (rests_texts v rests))

pub returns-clause-later : goal.returns-clause-later
returns-clause-later g c =
    let same = c.next_number-next.ensures.same in
    let more : c.next_number-next.result < c.args.number = omega (arith, c.if-number-next.false) in
    sym (max-eq_right (omega (arith, more, same)))

pub returns-clause-done : goal.returns-clause-done
returns-clause-done g c honest v has_view rests =
    let same_blocks = has_view.blocks in
    let same : v.blocks ≡ c.layout.result.now = search rules in
    c.in_ok-change.ensures.done honest v (with_next v c.args.number) same rests
    (c.in_ok-pages.ensures.changes v has_view) (rests_texts v rests)

pub returns-clause-lasts : goal.returns-clause-lasts
returns-clause-lasts g c honest v has_view rests =
    let same_blocks = has_view.blocks in
    let same : v.blocks ≡ c.layout.result.now = search rules in
    let next = c.next_number-next.ensures.same ∙ has_view.next in
    let more : c.next_number-next.result < c.args.number = omega (arith, c.if-number-next.false) in
    leaves_either g.D.Disk c.args.disk.now c.change.new.disk v c.args.number (Ok c.args.number) tt
    (omega (arith, more, next)) (c.change.ensures.lasts honest v (with_next v c.args.number) same rests
    (c.in_ok-pages.ensures.changes v has_view) (rests_texts v rests))

pub returns-clause-commit : goal.returns-clause-commit
returns-clause-commit g c honest v has_view rests =
    let same_blocks = has_view.blocks in
    let same : v.blocks ≡ c.layout.result.now = search rules in
    let next = c.next_number-next.ensures.same ∙ has_view.next in
    let more : c.next_number-next.result < c.args.number = omega (arith, c.if-number-next.false) in
    inr (
      omega (arith, more, next),
      record {
        pages = c.in_ok-pages.pages;
        one = c.in_ok-pages.ensures.one;
        area = subst (λ n. InArea (journal_pages n) c.in_ok-pages.pages) same_blocks c.in_ok-pages.ensures.area;
        changes = c.in_ok-pages.ensures.changes v has_view;
        settled = subst
            (λ n. Settled (journal_pages n) (laid c.in_ok-pages.pages (g.D.Disk.current c.args.disk.now))
            (g.D.Disk.current c.change.new.disk) (g.D.Disk.unsynced c.change.new.disk)) (sym same)
            (c.in_ok-change.ensures.laid honest v same rests);
      },
    )
