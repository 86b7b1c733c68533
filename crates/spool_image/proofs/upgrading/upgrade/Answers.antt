use Rattle.std.proofs.Common.{◌≡◌, ◌∙◌, ℕ, ◌*◌, ◌≤◌, refl, sym, subst, rules}
use Rattle.std.proofs.lemmas.Result.{err_from_is_err_and}
use Rattle.common.specs.declared.stop.Stop.TheVariants.{DiskFault}
use Rattle.spool_journal.specs.declared.TheConstants.{PAGE}
use Rattle.spool_disk.specs.Disk.{IsImage, Preserves}
use Rattle.spool_disk.specs.Views.{Lasts}
use Rattle.spool_journal.specs.Image.{all_pages, journal_pages, overlaid, Outside}
use Rattle.spool_catalog.specs.declared.error.OpenFault.TheVariants.{Stop}
use Rattle.spool_pages.specs.Changes.{upgraded}
use Rattle.spool_pages.specs.Rests.{Rests}
use Rattle.spool_pages.specs.View.{IsViewOf}
use Rattle.spool_load.proofs.Looks.{ok_no_fault}
use Rattle.spool_load.proofs.ReadBys.{by_same}
use Rattle.spool_image.specs.declared.error.UpgradeError.TheVariants.{Open}
use Rattle.spool_image.proofs.Opens.{read_alone, read_then, view_room}
use Rattle.spool_image.proofs.Refused.{opened_is_known, opened_is_old, opened_is_spool, opened_is_whole}
use Rattle.spool_image.proofs.Refused.{upgrade_damaged, upgrade_new, upgrade_no_spool, upgrade_version}
use Rattle.spool_image.proofs.Upgraded.{after_shows, commit_over, crash_shown, if_err, on_ok_both, on_ok_more}
use Rattle.spool_image.proofs.Upgraded.{late_by, other_err, refused_late}
use Rattle.spool_image.proofs.Upgraded.{rests_show, settled_rests, untouched_on, upgraded_view_shows}
use Rattle.spool_image.proofs.Upgraded.{upgrades_late, view_shows}
use Rattle.spool_image.proofs.upgrading.upgrade.Goals as goal

pub returns-in_err-catalog-clause-lasts : goal.returns-in_err-catalog-clause-lasts
returns-in_err-catalog-clause-lasts g c honest v valid is room =
    read_alone g.D.Disk c.args.disk.now v (λ image. IsViewOf image (upgraded v)) is c.load_old.new.disk
    (c.load_old.ensures.lasts honest v valid is room)

pub returns-in_err-catalog-clause-crash : goal.returns-in_err-catalog-clause-crash
returns-in_err-catalog-clause-crash g c n m is =
    crash_shown g.D.Disk c.args.disk.now c.load_old.new.disk n m is
    (returns-in_err-catalog-clause-lasts g c is.honest)

pub returns-in_err-catalog-clause-not_a_spool : goal.returns-in_err-catalog-clause-not_a_spool
returns-in_err-catalog-clause-not_a_spool g c honest is =
    let recorded =
    upgrade_no_spool (g.D.Disk.size c.args.disk.now) (g.D.Disk.current c.args.disk.now) c.in_err-catalog.field-0.0
    (c.in_err-catalog.ensures.refused honest) is in
    search rules

pub returns-in_err-catalog-clause-version : goal.returns-in_err-catalog-clause-version
returns-in_err-catalog-clause-version g c honest is =
    let recorded =
    upgrade_version (g.D.Disk.size c.args.disk.now) (g.D.Disk.current c.args.disk.now) c.in_err-catalog.field-0.0
    (c.in_err-catalog.ensures.refused honest) is in
    search rules

pub returns-in_err-catalog-clause-already_new : goal.returns-in_err-catalog-clause-already_new
returns-in_err-catalog-clause-already_new g c honest is =
    let recorded =
    upgrade_new (g.D.Disk.size c.args.disk.now) (g.D.Disk.current c.args.disk.now) c.in_err-catalog.field-0.0
    (c.in_err-catalog.ensures.refused honest) is in
    search rules

pub returns-in_err-catalog-clause-damaged : goal.returns-in_err-catalog-clause-damaged
returns-in_err-catalog-clause-damaged g c honest is =
    let recorded =
    upgrade_damaged (g.D.Disk.size c.args.disk.now) (g.D.Disk.current c.args.disk.now) c.in_err-catalog.field-0.0
    (c.in_err-catalog.ensures.refused honest) is in
    search rules

pub returns-in_err-catalog-clause-shows : goal.returns-in_err-catalog-clause-shows
returns-in_err-catalog-clause-shows g c n m is fine =
    let v = is.shows.view in
    let stays =
    c.in_err-catalog.ensures.stays is.honest v is.shows.shows.valid is.shows.is
    (view_room g.D.Disk c.args.disk.now n m is) in
    let rests = stays (search rules) in
    rests_show g.D.Disk c.load_old.new.disk n m v is.shows.blocks (c.load_old.ensures.honest.0 is.honest)
    (subst (λ (size : ℕ). PAGE * all_pages n ≤ size) (sym c.load_old.ensures.size) is.room) rests
    (λ image here. view_shows n m (g.D.Disk.current c.args.disk.now) image is.shows here)

pub returns-clause-upgraded : goal.returns-clause-upgraded
returns-clause-upgraded g c honest v valid is room =
    upgrades_late v.version c.rewrite.result (c.in_ok-catalog.ensures.decoded honest v valid is room)
    c.rewrite.ensures.late

pub returns-clause-refused : goal.returns-clause-refused
returns-clause-refused g c honest =
    refused_late (g.D.Disk.size c.args.disk.now) (g.D.Disk.current c.args.disk.now)
    (overlaid (g.D.Disk.current c.args.disk.now)) c.rewrite.result c.rewrite.ensures.late

pub returns-clause-valid : goal.returns-clause-valid
returns-clause-valid g c honest =
    let opened = c.in_ok-catalog.ensures.valid honest in
    let v = opened.view in
    let mid = c.load_old.ensures.honest.0 honest in
    let has_view = opened.has_view.0 in
    let rests = settled_rests v c.in_ok-catalog.catalog.layout has_view.blocks
    (c.in_ok-catalog.ensures.settled honest) opened.is in
    on_ok_more c.rewrite.result (λ done. record {
      view = v;
      valid = opened.valid;
      old = sym has_view.version ∙ c.in_ok-catalog.ensures.version;
      was = opened.is;
      room = opened.room;
      rests = done.0;
      commit = commit_over v (g.D.Disk.current c.load_old.new.disk) (overlaid (g.D.Disk.current c.args.disk.now))
          (subst (λ n. (p : ℕ) → Outside (journal_pages n) p
          → g.D.Disk.current c.load_old.new.disk p ≡ overlaid (g.D.Disk.current c.args.disk.now) p) has_view.blocks
          (c.in_ok-catalog.ensures.settled honest).same) done.1;
    }) (on_ok_both _ _ c.rewrite.result (c.rewrite.ensures.done mid v has_view rests)
    (c.rewrite.ensures.commit mid v has_view rests))

pub returns-clause-not_a_spool : goal.returns-clause-not_a_spool
returns-clause-not_a_spool g c honest is =
    absurd (opened_is_spool (g.D.Disk.size c.args.disk.now) (g.D.Disk.current c.args.disk.now) c.in_ok-catalog.catalog
    (c.in_ok-catalog.ensures.valid honest) is)

pub returns-clause-version : goal.returns-clause-version
returns-clause-version g c honest is =
    absurd (opened_is_known (g.D.Disk.size c.args.disk.now) (g.D.Disk.current c.args.disk.now) c.in_ok-catalog.catalog
    (c.in_ok-catalog.ensures.valid honest) is)

pub returns-clause-already_new : goal.returns-clause-already_new
returns-clause-already_new g c honest is =
    let opened = c.in_ok-catalog.ensures.valid honest in
    absurd (opened_is_old (g.D.Disk.size c.args.disk.now) (g.D.Disk.current c.args.disk.now) c.in_ok-catalog.catalog
    opened
    (sym opened.has_view.0.version ∙ c.in_ok-catalog.ensures.version) is)

pub returns-clause-damaged : goal.returns-clause-damaged
returns-clause-damaged g c honest is =
    absurd (opened_is_whole (g.D.Disk.size c.args.disk.now) (g.D.Disk.current c.args.disk.now) c.in_ok-catalog.catalog
    (c.in_ok-catalog.ensures.valid honest) is.0)

pub returns-clause-stays : goal.returns-clause-stays
returns-clause-stays g c honest v valid is room =
    let has_view = (c.in_ok-catalog.ensures.has honest v valid is room).0 in
    let rests = settled_rests v c.in_ok-catalog.catalog.layout has_view.blocks
    (c.in_ok-catalog.ensures.settled honest) is in
    untouched_on (λ d. Rests v (g.D.Disk.current d) (g.D.Disk.unsynced d)) (Open (Stop DiskFault)) c.load_old.new.disk
    c.rewrite.new.disk c.rewrite.result rests c.rewrite.ensures.untouched

pub returns-clause-lasts : goal.returns-clause-lasts
returns-clause-lasts g c honest v valid is room =
    let has_view = (c.in_ok-catalog.ensures.has honest v valid is room).0 in
    let rests = settled_rests v c.in_ok-catalog.catalog.layout has_view.blocks
    (c.in_ok-catalog.ensures.settled honest) is in
    read_then g.D.Disk c.args.disk.now v (λ image. IsViewOf image (upgraded v)) is c.load_old.new.disk
    c.rewrite.new.disk (c.load_old.ensures.lasts honest v valid is room)
    (c.rewrite.ensures.lasts (c.load_old.ensures.honest.0 honest) v has_view rests)

pub returns-clause-crash : goal.returns-clause-crash
returns-clause-crash g c n m is =
    crash_shown g.D.Disk c.args.disk.now c.rewrite.new.disk n m is (returns-clause-lasts g c is.honest)

pub returns-clause-shows : goal.returns-clause-shows
returns-clause-shows g c n m is fine =
    let v = is.shows.view in
    let valid = is.shows.shows.valid in
    let room = view_room g.D.Disk c.args.disk.now n m is in
    let mid = c.load_old.ensures.honest.0 is.honest in
    let has_view = (c.in_ok-catalog.ensures.has is.honest v valid is.shows.is room).0 in
    let settled = c.in_ok-catalog.ensures.settled is.honest in
    let rests = settled_rests v c.in_ok-catalog.catalog.layout has_view.blocks settled is.shows.is in
    let size : g.D.Disk.size c.rewrite.new.disk ≡ g.D.Disk.size c.args.disk.now =
    c.rewrite.ensures.size ∙ c.load_old.ensures.size in
    let wide = subst (λ (size : ℕ). PAGE * all_pages n ≤ size) (sym size) is.room in
    let was = g.D.Disk.current c.args.disk.now in
    let back = c.rewrite.new.disk in
    after_shows g.D.Disk back n m v c.rewrite.result is.shows.blocks (c.rewrite.ensures.honest.0 mid) wide fine
    (c.rewrite.ensures.done mid v has_view rests)
    (untouched_on (λ d. Rests v (g.D.Disk.current d) (g.D.Disk.unsynced d)) (Open (Stop DiskFault)) c.load_old.new.disk
    back c.rewrite.result rests c.rewrite.ensures.untouched)
    (λ image here. view_shows n m was image is.shows here)
    (λ image here. upgraded_view_shows n m was image is.shows here)

pub returns-in_err-catalog-clause-same : goal.returns-in_err-catalog-clause-same
returns-in_err-catalog-clause-same g c honest none =
    let same : (c.in_err-catalog.field-0.0 ≡ Open (Stop DiskFault) → ⊥)
    → Preserves (g.D.Disk.current c.args.disk.now) (g.D.Disk.current c.load_old.new.disk)
    (g.D.Disk.unsynced c.args.disk.now)
    (g.D.Disk.unsynced c.load_old.new.disk) =
    λ fine. c.load_old.ensures.same honest none (other_err _ _ (Open (Stop DiskFault)) c.in_err-catalog.was fine) in
    if_err c.from_residual.result (λ e. e ≡ c.in_err-catalog.field-0.0) _ c.from_residual.ensures.1
    (λ e is fine. same (λ bad. fine (is ∙ bad)))

pub returns-clause-unwritten : goal.returns-clause-unwritten
returns-clause-unwritten g c honest none =
    untouched_on
    (λ d. Lasts g.D.Disk c.args.disk.now d
    (IsImage (g.D.Disk.current c.args.disk.now) (g.D.Disk.unsynced c.args.disk.now)))
    (Open (Stop DiskFault)) c.load_old.new.disk c.rewrite.new.disk c.rewrite.result
    (c.load_old.ensures.unwritten honest none) c.rewrite.ensures.untouched

pub returns-clause-same : goal.returns-clause-same
returns-clause-same g c honest none =
    untouched_on
    (λ d. Preserves (g.D.Disk.current c.args.disk.now) (g.D.Disk.current d) (g.D.Disk.unsynced c.args.disk.now)
    (g.D.Disk.unsynced d))
    (Open (Stop DiskFault)) c.load_old.new.disk c.rewrite.new.disk c.rewrite.result
    (c.load_old.ensures.same honest none (ok_no_fault _ _ c.in_ok-catalog.was)) c.rewrite.ensures.untouched

-- On any disk.

pub returns-in_err-catalog-clause-given : goal.returns-in_err-catalog-clause-given
returns-in_err-catalog-clause-given g c =
    let e = err_from_is_err_and c.from_residual.result c.from_residual.ensures.1 in
    rw (e.1, e.2) (by_same c.in_err-catalog.ensures.given refl (λ before after is. is))

pub returns-clause-given : goal.returns-clause-given
returns-clause-given g c =
    by_same c.in_ok-catalog.ensures.given c.rewrite.ensures.reads
    (λ before after is. late_by _ before after c.rewrite.result c.rewrite.ensures.late is)
