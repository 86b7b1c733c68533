use Rattle.std.proofs.Common.{ap, Some, false, refl, subst, sym, true}
use Rattle.spool_disk.specs.Views.{Lasts}
use Rattle.upload_rules.specs.World.{at_rest}
use Rattle.spool_load.proofs.ReadBys.{by_same}
use Rattle.spool_image.specs.LeftOnly.{AllShow, LeftOrShows}
use Rattle.gateway_outside.specs.InOrder.{in_order, shown_in_order}
use Rattle.gateway_outside.specs.Refusals.{done_by, is_damaged, memory_refused, ok_if, other_version, unopened}
use Rattle.gateway_delete.proofs.incomplete.incomplete_on.Goals as goal

pub returns-in-Ok-clause-shows : goal.returns-in-Ok-clause-shows
returns-in-Ok-clause-shows g c n m is ok =
    rw c.into_disk.ensures.same (c.in-Ok.ensures.shows n m is)

pub returns-in-Ok-clause-lasts : goal.returns-in-Ok-clause-lasts
returns-in-Ok-clause-lasts g c n m is =
    rw c.into_disk.ensures.same (c.in-Ok.ensures.lasts n m is)

pub returns-in-Ok-clause-finds : goal.returns-in-Ok-clause-finds
returns-in-Ok-clause-finds g c n m is =
    c.find_incomplete-found.ensures.finds true (at_rest m (Some n)) (c.in-Ok.ensures.represents n m is)
    (in_order g.D.Disk c.args.disk n m is)

pub returns-in-Err-clause-version : goal.returns-in-Err-clause-version
returns-in-Err-clause-version g c honest is = other_version _ _ c.from.ensures (c.in-Err.ensures.version honest is)

pub returns-in-Err-clause-damaged : goal.returns-in-Err-clause-damaged
returns-in-Err-clause-damaged g c honest is = is_damaged _ _ c.from.ensures (c.in-Err.ensures.damaged honest is)

pub returns-in-Ok-clause-given : goal.returns-in-Ok-clause-given
returns-in-Ok-clause-given g c =
    let found = c.find_incomplete-found in
    by_same c.in-Ok.ensures.given (ap g.D.Disk.reads c.into_disk.ensures.same)
    (λ before after is. record {
      refused = memory_refused _ before after found.result found.ensures.refused;
      done =
          done_by _ before after _ _ found.result (λ v m shows has_view. ok_if _ found.result
          (found.ensures.finds false
          (at_rest m (Some v.blocks)) (c.in-Ok.ensures.represents_view v m shows has_view)
          (shown_in_order v m shows))) is.memory;
    })

pub returns-in-Err-clause-given : goal.returns-in-Err-clause-given
returns-in-Err-clause-given g c =
    by_same c.in-Err.ensures.given refl
    (λ before after is. unopened _ before after c.in-Err.fault c.from.result c.from.ensures is.exact.refused)
