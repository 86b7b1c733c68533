use Rattle.std.proofs.Common.{ap, Err, Ok, Some, false, refl, true}
use Rattle.upload_rules.specs.World.{at_rest}
use Rattle.spool_image.specs.Spool.{SpoolRepresents}
use Rattle.gateway_outside.specs.InOrder.{in_order, shown_in_order}
use Rattle.gateway_outside.specs.Refusals.{change_refused, done_by, lists_as, is_damaged, other_version, unopened}
use Rattle.gateway_outside.specs.Refusals.{write_fault}
use Rattle.gateway_indexes.specs.declared.surveying.Survey.{Survey}
use Rattle.gateway_list.proofs.Opened.{given_same}
use Rattle.gateway_list.proofs.listing.list_on.Goals as goal

pub returns-in-Ok-written-clause-lines : goal.returns-in-Ok-written-clause-lines
returns-in-Ok-written-clause-lines g c n m is =
    c.in-Ok-written.ensures.lines true (at_rest m (Some n)) (c.in-Ok.ensures.represents n m is)
    (in_order g.D.Disk c.args.disk n m is)

pub returns-in-Ok-written-clause-shows : goal.returns-in-Ok-written-clause-shows
returns-in-Ok-written-clause-shows g c n m is ok =
    rw c.into_disk-disk.ensures.same (c.in-Ok.ensures.shows n m is)

pub returns-in-Ok-written-clause-lasts : goal.returns-in-Ok-written-clause-lasts
returns-in-Ok-written-clause-lasts g c n m is =
    rw c.into_disk-disk.ensures.same (c.in-Ok.ensures.lasts n m is)

pub returns-in-Err-written-clause-lasts : goal.returns-in-Err-written-clause-lasts
returns-in-Err-written-clause-lasts g c n m is =
    rw c.into_disk-disk.ensures.same (c.in-Ok.ensures.lasts n m is)

pub returns-in-Err-clause-listed : goal.returns-in-Err-clause-listed
returns-in-Err-clause-listed g c n m is =
    lists_as Survey (λ opened. SpoolRepresents opened.0 true (at_rest m (Some n))) c.in-Err.fault c.from.result
    c.from.ensures (c.in-Err.ensures.represents n m is)

pub returns-in-Err-clause-version : goal.returns-in-Err-clause-version
returns-in-Err-clause-version g c honest is = other_version _ _ c.from.ensures (c.in-Err.ensures.version honest is)

pub returns-in-Err-clause-damaged : goal.returns-in-Err-clause-damaged
returns-in-Err-clause-damaged g c honest is = is_damaged _ _ c.from.ensures (c.in-Err.ensures.damaged honest is)

pub returns-in-Ok-written-clause-given : goal.returns-in-Ok-written-clause-given
returns-in-Ok-written-clause-given g c =
    given_same c.in-Ok.ensures.given (ap g.D.Disk.reads c.into_disk-disk.ensures.same)
    (λ before after is. record {
      refused = tt;
      done =
          done_by _ before after _ _ (Ok c.in-Ok.survey) (λ v m shows has_view.
          c.in-Ok-written.ensures.lines false (at_rest m (Some v.blocks))
          (c.in-Ok.ensures.represents_view v m shows has_view) (shown_in_order v m shows)) is.memory;
    })

pub returns-in-Err-written-clause-given : goal.returns-in-Err-written-clause-given
returns-in-Err-written-clause-given g c =
    given_same c.in-Ok.ensures.given (ap g.D.Disk.reads c.into_disk-disk.ensures.same)
    (λ before after is. record {
      refused =
          change_refused _ before after {T = Survey} (Err c.in-Err-written.fault)
          (write_fault _ c.in-Err-written.ensures.refused);
      done = tt;
    })

pub returns-in-Err-clause-given : goal.returns-in-Err-clause-given
returns-in-Err-clause-given g c =
    given_same c.in-Err.ensures.given refl
    (λ before after is. unopened _ before after c.in-Err.fault c.from.result c.from.ensures is.exact.refused)
