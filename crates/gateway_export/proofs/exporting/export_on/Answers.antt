use Rattle.std.proofs.Common.{◌≡◌, [], ◌∷◌, Some, ap, false, inl, inr, refl, true}
use Rattle.gateway_export.proofs.Later.{more_on, no_more}
use Rattle.upload_rules.specs.World.{at_rest}
use Rattle.spool_load.proofs.ReadBys.{by_same}
use Rattle.spool_image.specs.Spool.{disk_of, block_count_of}
use Rattle.spool_image.specs.contracts.spool.SpoolUploads.TheImpl.Laws.{durable-law}
use Rattle.gateway_outside.specs.InOrder.{in_order, shown_in_order}
use Rattle.gateway_outside.specs.Lasting.{all_show, lasts_over, when_ok}
use Rattle.gateway_outside.specs.Refusals.{change_refused, done_by, is_damaged, ok_each, other_version, unopened}
use Rattle.gateway_texts.specs.Pieces.{quiet_limits}
use Rattle.gateway_export.specs.Planning.{jobs_of}
use Rattle.gateway_outside.specs.declared.faults.Fault.TheVariants.{Io}
use Rattle.gateway_export.proofs.Counting.{by_none}
use Rattle.gateway_export.proofs.Opened.{opened_never}
use Rattle.gateway_export.proofs.Exported.{any_differs, exports, surely_all, surely_each, surely_some}
use Rattle.gateway_export.proofs.Named.{apart, spool_rises}
use Rattle.gateway_export.proofs.exporting.export_on.Goals as goal

pub returns-in-Ok-clause-files : goal.returns-in-Ok-clause-files
returns-in-Ok-clause-files g c n m is files held =
    surely_all c.export_uploads-exported.result (g.F.Folder.holds c.export_uploads-exported.new.folder) m
    (jobs_of (g.F.Folder.takes c.args.folder.now) c.args.all m) files
    (c.export_uploads-exported.ensures.files true (at_rest m (Some n)) (c.in-Ok.ensures.represents n m is)
    (in_order g.D.Disk c.args.disk n m is) files held)

pub returns-in-Ok-clause-texts : goal.returns-in-Ok-clause-texts
returns-in-Ok-clause-texts g c n m is files held =
    let takes = g.F.Folder.takes c.args.folder.now in
    exports c.export_uploads-exported.result (g.F.Folder.holds c.export_uploads-exported.new.folder) m
    (jobs_of takes c.args.all m) files (apart takes c.args.all 0 m.uploads (spool_rises g.D.Disk c.args.disk n m is))
    (returns-in-Ok-clause-files g c n m is files held)

pub returns-in-Ok-clause-each : goal.returns-in-Ok-clause-each
returns-in-Ok-clause-each g c n m is files held =
    let represents = c.in-Ok.ensures.represents n m is in
    let order = in_order g.D.Disk c.args.disk n m is in
    surely_each c.export_uploads-exported.result (g.F.Folder.holds c.export_uploads-exported.new.folder)
    (g.F.Folder.lasting c.export_uploads-exported.new.folder) m
    (jobs_of (g.F.Folder.takes c.args.folder.now) c.args.all m) files
    (c.export_uploads-exported.ensures.files true (at_rest m (Some n)) represents order files held)
    (c.export_uploads-exported.ensures.settled true (at_rest m (Some n)) represents order files held)

pub returns-in-Ok-clause-whole : goal.returns-in-Ok-clause-whole
returns-in-Ok-clause-whole g c n m is files held =
    surely_some (g.F.Folder.holds c.export_uploads-exported.new.folder) m
    (jobs_of (g.F.Folder.takes c.args.folder.now) c.args.all m) files
    (c.export_uploads-exported.ensures.whole true (at_rest m (Some n)) (c.in-Ok.ensures.represents n m is)
    (in_order g.D.Disk c.args.disk n m is) files held)

pub returns-in-Ok-clause-differs : goal.returns-in-Ok-clause-differs
returns-in-Ok-clause-differs g c n m is =
    c.export_uploads-exported.ensures.differs (at_rest m (Some n)) (c.in-Ok.ensures.represents n m is)
    (in_order g.D.Disk c.args.disk n m is)

pub returns-in-Ok-clause-version : goal.returns-in-Ok-clause-version
returns-in-Ok-clause-version g c honest other = absurd (c.in-Ok.ensures.version honest other)

pub returns-in-Ok-clause-shows : goal.returns-in-Ok-clause-shows
returns-in-Ok-clause-shows g c n m is ok =
    let s = c.export_uploads-exported.new.uploads in
    let represents = when_ok c.export_uploads-exported.result _ ok
    (c.export_uploads-exported.ensures.represents true (at_rest m (Some n)) (c.in-Ok.ensures.represents n m is)) in
    rw c.into_disk.ensures.same
    (all_show g.D.Disk (disk_of s) (block_count_of s) n m (g.met.D.Disk.counts_now (disk_of s))
    (durable-law g.row.D g.D.Disk g.D.Disk-dict
    (record { counts_now = g.met.D.Disk.counts_now; only_now = g.met.D.Disk.only_now }) s
    (at_rest m (Some n)) (m ∷ []) represents (inl refl)))

pub returns-in-Ok-clause-lasts : goal.returns-in-Ok-clause-lasts
returns-in-Ok-clause-lasts g c n m is =
    let opened = c.in-Ok.spool in
    let s = c.export_uploads-exported.new.uploads in
    let represents = c.in-Ok.ensures.represents n m is in
    inr (rw c.into_disk.ensures.same
    (lasts_over g.D.Disk c.args.disk (disk_of opened) (disk_of s) (block_count_of opened) (block_count_of s) n m
    (m ∷ [])
    (g.met.D.Disk.counts_now c.args.disk) (c.in-Ok.ensures.lasts n m is) (c.in-Ok.ensures.shows n m is) (inl refl)
    (durable-law g.row.D g.D.Disk g.D.Disk-dict
    (record { counts_now = g.met.D.Disk.counts_now; only_now = g.met.D.Disk.only_now }) opened
    (at_rest m (Some n)) (m ∷ []) represents (inl refl))
    (quiet_limits _ _ _ _ (m ∷ []) c.export_uploads-exported.ensures.crash)))

pub returns-in-Err-clause-lasts : goal.returns-in-Err-clause-lasts
returns-in-Err-clause-lasts g c n m is = inl (c.in-Err.ensures.lasts n m is)

pub returns-in-Err-clause-version : goal.returns-in-Err-clause-version
returns-in-Err-clause-version g c honest is = other_version _ _ c.from.ensures (c.in-Err.ensures.version honest is)

pub returns-in-Err-clause-damaged : goal.returns-in-Err-clause-damaged
returns-in-Err-clause-damaged g c honest is = is_damaged _ _ c.from.ensures (c.in-Err.ensures.damaged honest is)

pub returns-in-Ok-clause-given : goal.returns-in-Ok-clause-given
returns-in-Ok-clause-given g c =
    let done = c.export_uploads-exported in
    record {
      opened = g.D.Disk.reads (disk_of c.in-Ok.spool);
      by = by_same c.in-Ok.ensures.given refl (λ before after is. record {
        refused = change_refused _ before after done.result done.ensures.refused;
        done =
            done_by _ before after _ _ done.result (λ v m shows has_view. ok_each _ done.result (λ files.
            ok_each _ done.result (λ held.
            any_differs done.result false (g.F.Folder.holds done.new.folder) m
            (jobs_of (g.F.Folder.takes c.args.folder.now) c.args.all m) files
            (done.ensures.files false (at_rest m (Some v.blocks)) (c.in-Ok.ensures.represents_view v m shows has_view)
            (shown_in_order v m shows) files held)))) is.memory;
      });
      others = more_on done.ensures.reads (no_more (ap g.D.Disk.reads c.into_disk.ensures.same));
    }

pub returns-in-Err-clause-given : goal.returns-in-Err-clause-given
returns-in-Err-clause-given g c =
    record {
      opened = g.D.Disk.reads c.in-Err.disk;
      by = by_same c.in-Err.ensures.given refl
          (λ before after is. unopened _ before after c.in-Err.fault c.from.result c.from.ensures is.exact.refused);
      others = no_more refl;
    }

pub returns-in-Ok-clause-io : goal.returns-in-Ok-clause-io
returns-in-Ok-clause-io g c =
    let view = c.in-Ok.ensures.view in
    c.export_uploads-exported.ensures.io false (at_rest view.1 (Some view.0.blocks))
    (c.in-Ok.ensures.represents_view view.0 view.1 view.3 view.2)

pub returns-in-Err-clause-io : goal.returns-in-Err-clause-io
returns-in-Err-clause-io g c =
    by_none _ _ _ _ _
    (λ io. let same : c.from.result ≡ Io = cc in opened_never c.in-Err.fault c.from.result c.from.ensures same)
    refl refl

pub returns-in-Ok-clause-tells : goal.returns-in-Ok-clause-tells
returns-in-Ok-clause-tells g c n m is =
    c.export_uploads-exported.ensures.tells (at_rest m (Some n)) (c.in-Ok.ensures.represents n m is)
    (in_order g.D.Disk c.args.disk n m is)
