use Rattle.std.proofs.Common.{[], ◌∷◌, Some, ap, false, inl, inr, refl, true}
use Rattle.upload_rules.specs.World.{at_rest}
use Rattle.spool_image.specs.Spool.{disk_of, block_count_of}
use Rattle.spool_image.specs.contracts.spool.SpoolUploads.TheImpl.Laws.{durable-law}
use Rattle.gateway_outside.specs.InOrder.{in_order, shown_in_order}
use Rattle.gateway_outside.specs.Lasting.{all_show, lasts_over, when_ok}
use Rattle.gateway_outside.specs.Refusals.{change_refused, done_by, is_damaged, other_version, unopened}
use Rattle.gateway_texts.specs.Pieces.{quiet_limits}
use Rattle.gateway_list.proofs.Opened.{given_none, given_then}
use Rattle.gateway_list.proofs.json_lines.json_on.Goals as goal

pub returns-in-Ok-clause-version : goal.returns-in-Ok-clause-version
returns-in-Ok-clause-version g c honest other = absurd (c.in-Ok.ensures.version honest other)

pub returns-in-Ok-clause-lines : goal.returns-in-Ok-clause-lines
returns-in-Ok-clause-lines g c n m is =
    c.write_all-written.ensures.lines true (at_rest m (Some n)) (c.in-Ok.ensures.represents n m is)
    (in_order g.D.Disk c.args.disk n m is)

pub returns-in-Ok-clause-shows : goal.returns-in-Ok-clause-shows
returns-in-Ok-clause-shows g c n m is ok =
    let s = c.write_all-written.new.uploads in
    let represents = when_ok c.write_all-written.result _ ok
    (c.write_all-written.ensures.represents true (at_rest m (Some n)) (c.in-Ok.ensures.represents n m is)) in
    rw c.into_disk.ensures.same
    (all_show g.D.Disk (disk_of s) (block_count_of s) n m (g.met.D.Disk.counts_now (disk_of s))
    (durable-law g.row.D g.D.Disk g.D.Disk-dict
    (record { counts_now = g.met.D.Disk.counts_now; only_now = g.met.D.Disk.only_now }) s
    (at_rest m (Some n)) (m ∷ []) represents (inl refl)))

pub returns-in-Ok-clause-lasts : goal.returns-in-Ok-clause-lasts
returns-in-Ok-clause-lasts g c n m is =
    let opened = c.in-Ok.spool in
    let s = c.write_all-written.new.uploads in
    let represents = c.in-Ok.ensures.represents n m is in
    inr (rw c.into_disk.ensures.same
    (lasts_over g.D.Disk c.args.disk (disk_of opened) (disk_of s) (block_count_of opened) (block_count_of s) n m
    (m ∷ [])
    (g.met.D.Disk.counts_now c.args.disk) (c.in-Ok.ensures.lasts n m is) (c.in-Ok.ensures.shows n m is) (inl refl)
    (durable-law g.row.D g.D.Disk g.D.Disk-dict
    (record { counts_now = g.met.D.Disk.counts_now; only_now = g.met.D.Disk.only_now }) opened
    (at_rest m (Some n)) (m ∷ []) represents (inl refl))
    (quiet_limits _ _ _ _ (m ∷ []) c.write_all-written.ensures.crash)))

pub returns-in-Err-clause-lasts : goal.returns-in-Err-clause-lasts
returns-in-Err-clause-lasts g c n m is = inl (c.in-Err.ensures.lasts n m is)

pub returns-in-Err-clause-version : goal.returns-in-Err-clause-version
returns-in-Err-clause-version g c honest is = other_version _ _ c.from.ensures (c.in-Err.ensures.version honest is)

pub returns-in-Err-clause-damaged : goal.returns-in-Err-clause-damaged
returns-in-Err-clause-damaged g c honest is = is_damaged _ _ c.from.ensures (c.in-Err.ensures.damaged honest is)

pub returns-in-Ok-clause-given : goal.returns-in-Ok-clause-given
returns-in-Ok-clause-given g c =
    let written = c.write_all-written in
    given_then c.in-Ok.ensures.given (λ before after is. record {
      refused = change_refused _ before after written.result written.ensures.refused;
      done = done_by _ before after _ _ written.result (λ v m shows has_view.
          written.ensures.lines false (at_rest m (Some v.blocks))
          (c.in-Ok.ensures.represents_view v m shows has_view) (shown_in_order v m shows)) is.memory;
    }) written.ensures.reads (ap g.D.Disk.reads c.into_disk.ensures.same)

pub returns-in-Err-clause-given : goal.returns-in-Err-clause-given
returns-in-Err-clause-given g c =
    given_none c.in-Err.ensures.given
    (λ before after is. unopened _ before after c.in-Err.fault c.from.result c.from.ensures is.exact.refused)
