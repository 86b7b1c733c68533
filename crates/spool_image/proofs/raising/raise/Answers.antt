use Rattle.std.proofs.Common.{◌≡◌, ◌∙◌, ◌*◌, ◌<◌, ◌≤◌, ◌^◌, ℕ, refl, sym, subst, ap, max, rules, arith}
use Rattle.std.proofs.lemmas.Result.{err_from_is_err_and}
use Rattle.common.specs.declared.stop.Stop.TheVariants.{DiskFault}
use Rattle.spool_disk.specs.Disk.{IsImage, Preserves}
use Rattle.spool_disk.specs.Views.{Lasts}
use Rattle.spool_journal.specs.declared.TheConstants.{PAGE}
use Rattle.spool_journal.specs.Image.{all_pages, journal_pages, overlaid}
use Rattle.spool_journal.specs.Phases.{Settled}
use Rattle.spool_catalog.specs.Catalog.{HasViewAlone}
use Rattle.spool_catalog.specs.Raising.{raised}
use Rattle.spool_catalog.specs.declared.catalog.Catalog.{Catalog}
use Rattle.spool_catalog.specs.declared.error.OpenFault.TheVariants.{Damaged, NotASpool, Stop, Version}
use Rattle.spool_load.proofs.ReadBys.{by_same}
use Rattle.spool_pages.specs.Changes.{with_next}
use Rattle.spool_pages.specs.View.{IsViewOf}
use Rattle.spool_image.specs.Raise.{MayRaise}
use Rattle.spool_image.specs.declared.error.RaiseError.TheVariants.{Open}
use Rattle.spool_image.proofs.Opens.{read_alone, read_then, view_room}
use Rattle.spool_image.proofs.Refused.{opened_is_known, opened_is_spool, opened_is_whole}
use Rattle.spool_image.proofs.Refused.{refused_damaged, refused_no_spool, refused_version}
use Rattle.spool_image.proofs.Raised.{commits_raise, crash_raised, if_ok_both, if_ok_more, if_ok_on, later_most}
use Rattle.spool_image.proofs.Raised.{loads_raises, none_read, opens_raise, raised_view_shows, raises_by}
use Rattle.spool_image.proofs.Raised.{stopped_reasons}
use Rattle.spool_image.proofs.Upgraded.{if_err, other_err, rests_show, settled_rests, untouched_on}
use Rattle.spool_image.proofs.raising.raise.Goals as goal

-- A NUMBER THAT IS TOO HIGH

pub returns-then-number-gt-LATEST-clause-given : goal.returns-then-number-gt-LATEST-clause-given
returns-then-number-gt-LATEST-clause-given g c = record {
  recovered = g.D.Disk.reads c.args.disk.now;
  first = none_read (g.D.Disk.reads c.args.disk.now);
  last = none_read (g.D.Disk.reads c.args.disk.now);
  so = λ before after early late. omega (arith, c.if-number-gt-LATEST.true);
}

-- AN OPENING THAT IS REFUSED

pub returns-in_err-catalog-clause-raises : goal.returns-in_err-catalog-clause-raises
returns-in_err-catalog-clause-raises g c honest le v valid is room =
    let stopped =
    loads_raises c.in_err-catalog.field-0.0 (λ (catalog : Catalog). HasViewAlone catalog v)
    (c.in_err-catalog.ensures.decoded honest v valid is room) in
    search rules

pub returns-in_err-catalog-clause-refused : goal.returns-in_err-catalog-clause-refused
returns-in_err-catalog-clause-refused g c honest =
    let reason = c.in_err-catalog.ensures.refused honest in
    search rules

pub returns-in_err-catalog-clause-not_a_spool : goal.returns-in_err-catalog-clause-not_a_spool
returns-in_err-catalog-clause-not_a_spool g c honest le is =
    let refuses =
    opens_raise c.in_err-catalog.field-0.0 NotASpool
    (refused_no_spool (g.D.Disk.size c.args.disk.now) (g.D.Disk.current c.args.disk.now) _ c.in_err-catalog.field-0.0
    (c.in_err-catalog.ensures.refused honest) is) in
    search rules

pub returns-in_err-catalog-clause-version : goal.returns-in_err-catalog-clause-version
returns-in_err-catalog-clause-version g c honest le is =
    let refuses =
    opens_raise c.in_err-catalog.field-0.0 Version
    (refused_version (g.D.Disk.size c.args.disk.now) (g.D.Disk.current c.args.disk.now) _ c.in_err-catalog.field-0.0
    (c.in_err-catalog.ensures.refused honest) is) in
    search rules

pub returns-in_err-catalog-clause-damaged : goal.returns-in_err-catalog-clause-damaged
returns-in_err-catalog-clause-damaged g c honest le is =
    let refuses =
    opens_raise c.in_err-catalog.field-0.0 Damaged
    (refused_damaged (g.D.Disk.size c.args.disk.now) (g.D.Disk.current c.args.disk.now) _ c.in_err-catalog.field-0.0
    (c.in_err-catalog.ensures.refused honest) is) in
    search rules

pub returns-in_err-catalog-clause-given : goal.returns-in_err-catalog-clause-given
returns-in_err-catalog-clause-given g c =
    let e = err_from_is_err_and c.from_residual.result c.from_residual.ensures.1 in
    rw (e.1, e.2) (by_same c.in_err-catalog.ensures.given refl (λ before after is. is.answer))

pub returns-in_err-catalog-clause-same : goal.returns-in_err-catalog-clause-same
returns-in_err-catalog-clause-same g c honest none =
    let same : (c.in_err-catalog.field-0.0 ≡ Stop DiskFault → ⊥)
    → Preserves (g.D.Disk.current c.args.disk.now) (g.D.Disk.current c.load.new.disk)
    (g.D.Disk.unsynced c.args.disk.now) (g.D.Disk.unsynced c.load.new.disk) =
    λ fine. c.load.ensures.same honest none (other_err _ _ (Stop DiskFault) c.in_err-catalog.was fine) in
    if_err c.from_residual.result (λ e. e ≡ Open c.in_err-catalog.field-0.0) _ c.from_residual.ensures.1
    (λ e is fine. same (λ bad. fine (is ∙ ap Open bad)))

pub returns-in_err-catalog-clause-lasts : goal.returns-in_err-catalog-clause-lasts
returns-in_err-catalog-clause-lasts g c honest v valid is room =
    read_alone g.D.Disk c.args.disk.now v (λ image. MayRaise c.from_residual.result × (v.next < c.args.number)
    × IsViewOf image (with_next v c.args.number)) is c.load.new.disk (c.load.ensures.lasts honest v valid is room)

pub returns-in_err-catalog-clause-crash : goal.returns-in_err-catalog-clause-crash
returns-in_err-catalog-clause-crash g c n m is =
    let most : c.args.number ≤ 10 ^ 18 = omega (arith, c.if-number-gt-LATEST.false) in
    crash_raised g.D.Disk c.args.disk.now c.load.new.disk n m c.args.number c.from_residual.result is (λ may. most)
    (returns-in_err-catalog-clause-lasts g c is.honest)

-- AN OPENING, AND THE LATER NUMBER

pub returns-clause-valid : goal.returns-clause-valid
returns-clause-valid g c honest =
    let opened = c.in_ok-catalog.ensures.valid honest in
    let v = opened.view in
    let mid = c.load.ensures.honest.0 honest in
    let has_view = opened.has_view.0 in
    let was = g.D.Disk.current c.args.disk.now in
    let settled = c.in_ok-catalog.ensures.settled honest in
    let rests = settled_rests v c.in_ok-catalog.catalog.layout has_view.blocks settled opened.is in
    let there =
    subst (λ (k : ℕ). Settled (journal_pages k) (overlaid was) (g.D.Disk.current c.load.new.disk)
    (g.D.Disk.unsynced c.load.new.disk)) has_view.blocks settled in
    let all = if_ok_both _ _ c.put_next.result c.put_next.ensures.later
    (if_ok_both _ _ c.put_next.result (c.put_next.ensures.done mid v has_view rests)
    (if_ok_on _ c.put_next.result (c.put_next.ensures.commit mid v has_view rests))) in
    if_ok_more _ _ c.put_next.result all (λ next is. record {
      view = v;
      valid = opened.valid;
      was = opened.is;
      room = opened.room;
      later = is.0 ∙ ap (λ (k : ℕ). max k c.args.number) has_view.next;
      rests = is.1.0;
      commit = commits_raise g.D.Disk c.load.new.disk c.put_next.new.disk v c.args.number was there is.1.1;
    })

pub returns-clause-refused : goal.returns-clause-refused
returns-clause-refused g c honest =
    stopped_reasons (g.D.Disk.size c.args.disk.now) c.args.number (g.D.Disk.current c.args.disk.now)
    (overlaid (g.D.Disk.current c.args.disk.now)) c.put_next.result c.put_next.ensures.stopped

pub returns-clause-not_a_spool : goal.returns-clause-not_a_spool
returns-clause-not_a_spool g c honest le is =
    absurd (opened_is_spool (g.D.Disk.size c.args.disk.now) (g.D.Disk.current c.args.disk.now) c.in_ok-catalog.catalog
    (c.in_ok-catalog.ensures.valid honest) is)

pub returns-clause-version : goal.returns-clause-version
returns-clause-version g c honest le is =
    absurd (opened_is_known (g.D.Disk.size c.args.disk.now) (g.D.Disk.current c.args.disk.now) c.in_ok-catalog.catalog
    (c.in_ok-catalog.ensures.valid honest) is)

pub returns-clause-damaged : goal.returns-clause-damaged
returns-clause-damaged g c honest le is =
    absurd (opened_is_whole (g.D.Disk.size c.args.disk.now) (g.D.Disk.current c.args.disk.now) c.in_ok-catalog.catalog
    (c.in_ok-catalog.ensures.valid honest) is)

pub returns-clause-given : goal.returns-clause-given
returns-clause-given g c =
    by_same c.in_ok-catalog.ensures.given c.put_next.ensures.reads
    (λ before after is. raises_by _ c.args.number before after c.in_ok-catalog.catalog c.put_next.result is
    c.put_next.ensures.stopped c.put_next.ensures.later)

pub returns-clause-unwritten : goal.returns-clause-unwritten
returns-clause-unwritten g c honest none =
    untouched_on
    (λ d. Lasts g.D.Disk c.args.disk.now d
    (IsImage (g.D.Disk.current c.args.disk.now) (g.D.Disk.unsynced c.args.disk.now)))
    (Open (Stop DiskFault)) c.load.new.disk c.put_next.new.disk c.put_next.result
    (c.load.ensures.unwritten honest none) c.put_next.ensures.untouched

pub returns-clause-same : goal.returns-clause-same
returns-clause-same g c honest none =
    untouched_on
    (λ d. Preserves (g.D.Disk.current c.args.disk.now) (g.D.Disk.current d) (g.D.Disk.unsynced c.args.disk.now)
    (g.D.Disk.unsynced d))
    (Open (Stop DiskFault)) c.load.new.disk c.put_next.new.disk c.put_next.result
    (c.load.ensures.same honest none (λ failed. let was = c.in_ok-catalog.was in cc)) c.put_next.ensures.untouched

pub returns-clause-lasts : goal.returns-clause-lasts
returns-clause-lasts g c honest v valid is room =
    let has_view = (c.in_ok-catalog.ensures.decoded honest v valid is room).0 in
    let rests = settled_rests v c.in_ok-catalog.catalog.layout has_view.blocks
    (c.in_ok-catalog.ensures.settled honest) is in
    read_then g.D.Disk c.args.disk.now v (λ image. MayRaise c.put_next.result × (v.next < c.args.number)
    × IsViewOf image (with_next v c.args.number)) is c.load.new.disk c.put_next.new.disk
    (c.load.ensures.lasts honest v valid is room)
    (c.put_next.ensures.lasts (c.load.ensures.honest.0 honest) v has_view rests)

pub returns-clause-crash : goal.returns-clause-crash
returns-clause-crash g c n m is =
    let most : c.args.number ≤ 10 ^ 18 = omega (arith, c.if-number-gt-LATEST.false) in
    crash_raised g.D.Disk c.args.disk.now c.put_next.new.disk n m c.args.number c.put_next.result is (λ may. most)
    (returns-clause-lasts g c is.honest)

pub returns-clause-shows : goal.returns-clause-shows
returns-clause-shows g c n m is =
    let most : c.args.number ≤ 10 ^ 18 = omega (arith, c.if-number-gt-LATEST.false) in
    let v = is.shows.view in
    let valid = is.shows.shows.valid in
    let room = view_room g.D.Disk c.args.disk.now n m is in
    let mid = c.load.ensures.honest.0 is.honest in
    let has_view = (c.in_ok-catalog.ensures.decoded is.honest v valid is.shows.is room).0 in
    let settled = c.in_ok-catalog.ensures.settled is.honest in
    let rests = settled_rests v c.in_ok-catalog.catalog.layout has_view.blocks settled is.shows.is in
    let size : g.D.Disk.size c.put_next.new.disk ≡ g.D.Disk.size c.args.disk.now =
    c.put_next.ensures.size ∙ c.load.ensures.size in
    let wide = subst (λ (size : ℕ). PAGE * all_pages n ≤ size) (sym size) is.room in
    let was = g.D.Disk.current c.args.disk.now in
    if_ok_more _ _ c.put_next.result
    (if_ok_both _ _ c.put_next.result c.put_next.ensures.later (c.put_next.ensures.done mid v has_view rests))
    (λ next both.
    let later = both.0 ∙ ap (λ (k : ℕ). max k c.args.number) has_view.next in
    let within = later_most m v c.args.number next valid is.shows.shows.next most later in (
      later ∙ ap (λ (k : ℕ). max k c.args.number) is.shows.shows.next,
      rests_show g.D.Disk c.put_next.new.disk n (raised m next) (with_next v next) is.shows.blocks
          (c.put_next.ensures.honest.0 mid) wide both.1
          (λ image here. raised_view_shows n m was image is.shows next within.0 within.1 here),
    ))
