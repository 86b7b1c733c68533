use Rattle.std.proofs.Common.{[], ◌∷◌, Some, ap, false, inl, inr, refl, subst, sym, true, ◌∙◌}
use Rattle.upload_rules.specs.World.{at_rest}
use Rattle.spool_load.proofs.ReadBys.{by_same}
use Rattle.spool_image.specs.LeftOnly.{AllShow}
use Rattle.spool_image.specs.Spool.{disk_of, block_count_of}
use Rattle.spool_image.specs.contracts.spool.SpoolUploads.TheImpl.Laws.{durable-law}
use Rattle.gateway_outside.specs.Leaving.{LastsOverOpening}
use Rattle.gateway_outside.specs.Lasting.{all_show, lasts_over, when_ok}
use Rattle.gateway_outside.specs.Refusals.{change_refused, done_by, is_damaged, ok_both, other_version, unopened}
use Rattle.gateway_delete.specs.Deleting.{left, stages}
use Rattle.gateway_delete.proofs.Deletions.{first_stage}
use Rattle.gateway_delete.proofs.deleting.delete_on.Goals as goal

pub returns-in-Ok-clause-shows : goal.returns-in-Ok-clause-shows
returns-in-Ok-clause-shows g c n m is ok =
    let s = c.delete_uploads-deleted.new.uploads in
    let m' = left m c.args.numbers.now in
    let represents = when_ok c.delete_uploads-deleted.result _ ok
    (c.delete_uploads-deleted.ensures.represents true (at_rest m (Some n)) (c.in-Ok.ensures.represents n m is)) in
    rw c.into_disk.ensures.same
    (all_show g.D.Disk (disk_of s) (block_count_of s) n m' (g.met.D.Disk.counts_now (disk_of s))
    (durable-law g.row.D g.D.Disk g.D.Disk-dict
    (record { counts_now = g.met.D.Disk.counts_now; only_now = g.met.D.Disk.only_now }) s
    (at_rest m' (Some n)) (m' ∷ []) represents (inl refl)))

pub returns-in-Ok-clause-lines : goal.returns-in-Ok-clause-lines
returns-in-Ok-clause-lines g c n m is =
    c.delete_uploads-deleted.ensures.lines true (at_rest m (Some n)) (c.in-Ok.ensures.represents n m is)

pub returns-in-Ok-clause-all : goal.returns-in-Ok-clause-all
returns-in-Ok-clause-all g c n m is =
    c.delete_uploads-deleted.ensures.all true (at_rest m (Some n)) (c.in-Ok.ensures.represents n m is)

pub returns-in-Ok-clause-lasts : goal.returns-in-Ok-clause-lasts
returns-in-Ok-clause-lasts g c n m is =
    let opened = c.in-Ok.spool in
    let s = c.delete_uploads-deleted.new.uploads in
    let stores = stages m c.args.numbers.now in
    let represents = c.in-Ok.ensures.represents n m is in
    inr (rw c.into_disk.ensures.same
    (lasts_over g.D.Disk c.args.disk (disk_of opened) (disk_of s) (block_count_of opened) (block_count_of s) n m stores
    (g.met.D.Disk.counts_now c.args.disk) (c.in-Ok.ensures.lasts n m is) (c.in-Ok.ensures.shows n m is)
    (first_stage m c.args.numbers.now)
    (durable-law g.row.D g.D.Disk g.D.Disk-dict
    (record { counts_now = g.met.D.Disk.counts_now; only_now = g.met.D.Disk.only_now }) opened
    (at_rest m (Some n)) stores represents (first_stage m c.args.numbers.now))
    (c.delete_uploads-deleted.ensures.crash (at_rest m (Some n)) represents)))

pub returns-in-Err-clause-lasts : goal.returns-in-Err-clause-lasts
returns-in-Err-clause-lasts g c n m is = inl (c.in-Err.ensures.lasts n m is)

pub returns-in-Err-clause-version : goal.returns-in-Err-clause-version
returns-in-Err-clause-version g c honest is = other_version _ _ c.from.ensures (c.in-Err.ensures.version honest is)

pub returns-in-Err-clause-damaged : goal.returns-in-Err-clause-damaged
returns-in-Err-clause-damaged g c honest is = is_damaged _ _ c.from.ensures (c.in-Err.ensures.damaged honest is)

pub returns-in-Ok-clause-given : goal.returns-in-Ok-clause-given
returns-in-Ok-clause-given g c =
    let done = c.delete_uploads-deleted in
    by_same c.in-Ok.ensures.given
    (ap g.D.Disk.reads c.into_disk.ensures.same ∙ done.ensures.reads)
    (λ before after is. record {
      refused = change_refused _ before after done.result done.ensures.refused;
      done =
          done_by _ before after _ _ done.result (λ v m shows has_view.
          let represents = c.in-Ok.ensures.represents_view v m shows has_view in
          ok_both _ _ done.result (done.ensures.lines false (at_rest m (Some v.blocks)) represents)
          (done.ensures.all false (at_rest m (Some v.blocks)) represents)) is.memory;
    })

pub returns-in-Err-clause-given : goal.returns-in-Err-clause-given
returns-in-Err-clause-given g c =
    by_same c.in-Err.ensures.given refl
    (λ before after is. unopened _ before after c.in-Err.fault c.from.result c.from.ensures is.exact.refused)
