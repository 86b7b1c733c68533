use Rattle.std.proofs.Common.{◌≤◌, ◌*◌, ◌≡◌, ℕ, false, true, Some, refl, sym, subst}
use Rattle.spool_journal.specs.declared.TheConstants.{PAGE}
use Rattle.spool_journal.specs.Image.{journal_pages, all_pages, overlaid}
use Rattle.spool_journal.specs.Phases.{ReadsAs}
use Rattle.spool_journal.proofs.Gate.{settled_idle}
use Rattle.upload_rules.specs.World.{at_rest}
use Rattle.spool_kept.specs.Drafting.{StandsFor}
use Rattle.spool_catalog.specs.Holding.{Holding}
use Rattle.spool_catalog.specs.Catalog.{HasViewAlone}
use Rattle.spool_image.specs.Spool.{SpoolHasView}
use Rattle.spool_load.proofs.Faults.{loads_err}
use Rattle.spool_load.proofs.Opens.{settled_reads}
use Rattle.spool_load.proofs.ReadBys.{by_same}
use Rattle.spool_image.proofs.Opens.{image_shows, lasts_shown, view_room}
use Rattle.spool_image.proofs.Refused.{opened_is_spool, opened_is_known, opened_is_whole, refused_no_spool}
use Rattle.spool_image.proofs.Refused.{refused_version}
use Rattle.spool_image.proofs.Refused.{refused_damaged}
use Rattle.spool_image.proofs.RepresentsOn.{represents_opened}
use Rattle.spool_image.proofs.Opening.{opened_exactly, refused_exactly}
use Rattle.spool_image.proofs.spool.Spool.open.Goals as goal

pub returns-in-Ok-clause-lasts : goal.returns-in-Ok-clause-lasts
returns-in-Ok-clause-lasts g c n m is =
    lasts_shown g.D.Disk c.args.disk c.load.new.disk n m is (c.in-Ok.ensures.lasts is.honest)

pub returns-in-Err-clause-lasts : goal.returns-in-Err-clause-lasts
returns-in-Err-clause-lasts g c n m is =
    lasts_shown g.D.Disk c.args.disk c.load.new.disk n m is (c.in-Err.ensures.lasts is.honest)

pub returns-in-Ok-clause-shows : goal.returns-in-Ok-clause-shows
returns-in-Ok-clause-shows g c n m is = record {
  honest = c.in-Ok.ensures.honest.0 is.honest;
  room = subst (λ (size : ℕ). PAGE * all_pages n ≤ size) (sym c.in-Ok.ensures.size) is.room;
  each = λ image here.
      let was = g.D.Disk.current c.args.disk in
      let settled = c.in-Ok.ensures.settled is.honest in
      let room = view_room g.D.Disk c.args.disk n m is in
      let catalog = c.in-Ok.ensures.decoded is.honest is.shows.view is.shows.shows.valid is.shows.is room in
      let reads = settled_reads image settled (λ p. here.same p (settled.is_synced p)) in
      image_shows n m image was is.shows
      (subst (λ (k : ℕ). ReadsAs (journal_pages k) image (overlaid was)) catalog.0.blocks reads);
}

pub returns-in-Ok-clause-idle : goal.returns-in-Ok-clause-idle
returns-in-Ok-clause-idle g c honest = settled_idle (c.in-Ok.ensures.settled honest)

pub returns-in-Ok-clause-represents : goal.returns-in-Ok-clause-represents
returns-in-Ok-clause-represents g c n m is =
    let v = is.shows.view in
    let decoded =
    c.in-Ok.ensures.decoded is.honest v is.shows.shows.valid is.shows.is (view_room g.D.Disk c.args.disk n m is) in
    subst (λ (k : ℕ). StandsFor true g.D.Disk c.load.new.disk c.in-Ok.catalog c.new.result.items (at_rest m (Some k)))
    is.shows.blocks
    (represents_opened g.D.Disk c.load.new.disk (g.D.Disk.current c.args.disk) c.in-Ok.catalog c.new.result.items m v
    c.new.ensures.items
    (λ _. c.in-Ok.ensures.honest.0 is.honest) (λ _. is.shows.is) decoded is.shows.shows
    (λ _. c.in-Ok.ensures.settled is.honest))

pub returns-in-Ok-clause-view : goal.returns-in-Ok-clause-view
returns-in-Ok-clause-view g c = c.in-Ok.ensures.view

pub returns-in-Ok-clause-represents_view : goal.returns-in-Ok-clause-represents_view
returns-in-Ok-clause-represents_view g c v m shows has_view =
    represents_opened g.D.Disk c.load.new.disk (g.D.Disk.current c.args.disk) c.in-Ok.catalog c.new.result.items m v
    c.new.ensures.items (λ (known : false ≡ true). absurd cc) (λ known. absurd cc) has_view shows (λ known. absurd cc)

pub returns-in-Ok-clause-not_a_spool : goal.returns-in-Ok-clause-not_a_spool
returns-in-Ok-clause-not_a_spool g c honest is =
    absurd (opened_is_spool (g.D.Disk.size c.args.disk) (g.D.Disk.current c.args.disk) c.in-Ok.catalog
    (c.in-Ok.ensures.valid honest) is)

pub returns-in-Ok-clause-version : goal.returns-in-Ok-clause-version
returns-in-Ok-clause-version g c honest is =
    absurd (opened_is_known (g.D.Disk.size c.args.disk) (g.D.Disk.current c.args.disk) c.in-Ok.catalog
    (c.in-Ok.ensures.valid honest) is)

pub returns-in-Ok-clause-damaged : goal.returns-in-Ok-clause-damaged
returns-in-Ok-clause-damaged g c honest is =
    absurd (opened_is_whole (g.D.Disk.size c.args.disk) (g.D.Disk.current c.args.disk) c.in-Ok.catalog
    (c.in-Ok.ensures.valid honest) is)

pub returns-in-Err-clause-not_a_spool : goal.returns-in-Err-clause-not_a_spool
returns-in-Err-clause-not_a_spool g c honest is =
    refused_no_spool (g.D.Disk.size c.args.disk) (g.D.Disk.current c.args.disk) _ c.in-Err.fault
    (c.in-Err.ensures.refused honest) is

pub returns-in-Err-clause-version : goal.returns-in-Err-clause-version
returns-in-Err-clause-version g c honest is =
    refused_version (g.D.Disk.size c.args.disk) (g.D.Disk.current c.args.disk) _ c.in-Err.fault
    (c.in-Err.ensures.refused honest) is

pub returns-in-Err-clause-damaged : goal.returns-in-Err-clause-damaged
returns-in-Err-clause-damaged g c honest is =
    refused_damaged (g.D.Disk.size c.args.disk) (g.D.Disk.current c.args.disk) _ c.in-Err.fault
    (c.in-Err.ensures.refused honest) is

-- On any disk.

pub returns-in-Ok-clause-given : goal.returns-in-Ok-clause-given
returns-in-Ok-clause-given g c =
    by_same c.in-Ok.ensures.given refl (λ before after is. record {
      exact = opened_exactly (g.D.Disk.size c.args.disk) before after is.answer;
      memory = is.answer;
      opened = is.loads;
    })

pub returns-in-Err-clause-given : goal.returns-in-Err-clause-given
returns-in-Err-clause-given g c =
    by_same c.in-Err.ensures.given refl (λ before after is. record {
      exact = refused_exactly (g.D.Disk.size c.args.disk) before after c.in-Err.fault is.answer;
      memory = tt;
      opened =
          λ v valid encodes_by. loads_err (λ (catalog : Holding). HasViewAlone catalog v) (λ s. SpoolHasView s v)
          c.in-Err.fault
          (is.loads v valid encodes_by);
    })
