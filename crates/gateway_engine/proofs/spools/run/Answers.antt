use Rattle.std.proofs.Common.{◌≤◌, ◌*◌, ℕ, Some, Ok, Err, refl, subst, sym}
use Rattle.spool_journal.specs.Image.{all_pages}
use Rattle.spool_journal.specs.declared.TheConstants.{PAGE}
use Rattle.spool_image.specs.Spool.{disk_of}
use Rattle.spool_image.proofs.Opening.{opened_exactly, opened_reads, refused_exactly, view_more}
use Rattle.spool_load.proofs.ReadBys.{by_same}
use Rattle.tus_session.proofs.Counting.{uncounted}
use Rattle.gateway_engine.proofs.Exits.{counts_through, none_counts, some_script}
use Rattle.gateway_engine.proofs.Joining.{ran_from, unopened_from}
use Rattle.gateway_engine.proofs.OnDisk.{refused_as, view_room}
use Rattle.gateway_engine.proofs.spools.run.Goals as goal

pub returns-in-Err-clause-runs : goal.returns-in-Err-clause-runs
returns-in-Err-clause-runs g c n m is =
    let disk = c.args.disk in
    let refused = c.in-Err.ensures in
    let script = some_script (g.R.CountedRead.remaining c.args.reader.now) in (
      script.0,
      script.1,
      unopened_from g.D.Disk disk c.in-Err.disk n m (g.met.D.Disk.counts_now disk) (refused.lasts n m is) _ _
          c.in-Err.fault _ _ script.0
          (refused.opened is.honest is.shows.view is.shows.shows.valid is.shows.is (view_room g.D.Disk disk n m is))
          (refused.honest.0 is.honest)
          (subst (λ (size : ℕ). PAGE * all_pages n ≤ size) (sym refused.size) is.room),
    )

pub returns-in-Ok-run_opened-clause-runs : goal.returns-in-Ok-run_opened-clause-runs
returns-in-Ok-run_opened-clause-runs g c n m is =
    let disk = c.args.disk in
    let opened = c.in-Ok.ensures in
    let has = c.in-Ok-run_opened.ensures.runs m n (opened.represents n m is) in (
      has.0,
      has.1,
      ran_from g.D.Disk disk (disk_of c.in-Ok.spool) n m (g.met.D.Disk.counts_now disk) (opened.lasts n m is)
          (Ok c.in-Ok-run_opened.disk) _ _ has.0 (opened.shows n m is) has.2,
    )

pub returns-in-Err-run_opened-clause-runs : goal.returns-in-Err-run_opened-clause-runs
returns-in-Err-run_opened-clause-runs g c n m is =
    let disk = c.args.disk in
    let opened = c.in-Ok.ensures in
    let has = c.in-Err-run_opened.ensures.runs m n (opened.represents n m is) in (
      has.0,
      has.1,
      ran_from g.D.Disk disk (disk_of c.in-Ok.spool) n m (g.met.D.Disk.counts_now disk) (opened.lasts n m is)
          (Err (c.in-Err-run_opened.disk, c.in-Err-run_opened.fault)) _ _ has.0 (opened.shows n m is) has.2,
    )

pub returns-in-Ok-run_opened-clause-writes : goal.returns-in-Ok-run_opened-clause-writes
returns-in-Ok-run_opened-clause-writes g c =
    let at = c.in-Ok.ensures.view in (
      at.0,
      at.1,
      at.3,
      λ m shows. c.in-Ok-run_opened.ensures.writes m (Some at.0.blocks)
          (c.in-Ok.ensures.represents_view at.0 m shows at.2),
    )

pub returns-in-Err-run_opened-clause-writes : goal.returns-in-Err-run_opened-clause-writes
returns-in-Err-run_opened-clause-writes g c =
    let at = c.in-Ok.ensures.view in (
      at.0,
      at.1,
      at.3,
      λ m shows. c.in-Err-run_opened.ensures.writes m (Some at.0.blocks)
          (c.in-Ok.ensures.represents_view at.0 m shows at.2),
    )

pub returns-in-Err-clause-given : goal.returns-in-Err-clause-given
returns-in-Err-clause-given g c = record {
  left = c.in-Err.disk;
  back = refl;
  by = by_same c.in-Err.ensures.given refl (λ before after is. record {
    exact = is.exact;
    memory = tt {0};
    opened = λ v valid encodes. refused_as _ _ _ (is.opened v valid encodes);
  });
}

pub returns-in-Ok-run_opened-clause-given : goal.returns-in-Ok-run_opened-clause-given
returns-in-Ok-run_opened-clause-given g c =
    let opened = c.in-Ok.ensures in
    let ran = c.in-Ok-run_opened.ensures in
    record {
      left = disk_of c.in-Ok.spool;
      back = tt {0};
      by = by_same opened.given refl (λ before after is. record {
        exact = is.exact;
        memory = view_more (λ v has_view m shows. ran.writes m (Some v.blocks)
            (opened.represents_view v m shows has_view)) is.memory;
        opened = λ v valid encodes m shows. ran.writes m (Some v.blocks)
            (opened.represents_view v m shows (is.opened v valid encodes));
      });
    }

pub returns-in-Err-run_opened-clause-given : goal.returns-in-Err-run_opened-clause-given
returns-in-Err-run_opened-clause-given g c =
    let opened = c.in-Ok.ensures in
    let ran = c.in-Err-run_opened.ensures in
    record {
      left = disk_of c.in-Ok.spool;
      back = tt {0};
      by = by_same opened.given refl (λ before after is. record {
        exact = is.exact;
        memory = view_more (λ v has_view m shows. ran.writes m (Some v.blocks)
            (opened.represents_view v m shows has_view)) is.memory;
        opened = λ v valid encodes m shows. ran.writes m (Some v.blocks)
            (opened.represents_view v m shows (is.opened v valid encodes));
      });
    }

pub returns-in-Err-clause-exact : goal.returns-in-Err-clause-exact
returns-in-Err-clause-exact g c honest =
    refused_exactly _ (g.D.Disk.current c.args.disk) _ _ (c.in-Err.ensures.refused honest)

pub returns-in-Ok-run_opened-clause-exact : goal.returns-in-Ok-run_opened-clause-exact
returns-in-Ok-run_opened-clause-exact g c honest =
    opened_exactly _ (g.D.Disk.current c.args.disk) _ (opened_reads _ (c.in-Ok.ensures.valid honest))

pub returns-in-Err-run_opened-clause-exact : goal.returns-in-Err-run_opened-clause-exact
returns-in-Err-run_opened-clause-exact g c honest =
    opened_exactly _ (g.D.Disk.current c.args.disk) _ (opened_reads _ (c.in-Ok.ensures.valid honest))

pub returns-in-Ok-run_opened-clause-counts : goal.returns-in-Ok-run_opened-clause-counts
returns-in-Ok-run_opened-clause-counts g c =
    counts_through (uncounted (λ never. absurd never) c.in-Ok.ensures.counts) refl c.in-Ok-run_opened.ensures.counts

pub returns-in-Err-run_opened-clause-counts : goal.returns-in-Err-run_opened-clause-counts
returns-in-Err-run_opened-clause-counts g c =
    counts_through (uncounted (λ never. absurd never) c.in-Ok.ensures.counts) refl c.in-Err-run_opened.ensures.counts

pub returns-in-Err-clause-io : goal.returns-in-Err-clause-io
returns-in-Err-clause-io g c = none_counts refl refl
