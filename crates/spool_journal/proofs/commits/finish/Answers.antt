use Rattle.std.proofs.Common.{sym, subst}
use Rattle.spool_disk.proofs.Firm.{lasts_on}
use Rattle.spool_journal.specs.Phases.{Upto}
use Rattle.spool_journal.proofs.commits.finish.Goals as goal

pub returns-in_err-place_pages-clause-lasts : goal.returns-in_err-place_pages-clause-lasts
returns-in_err-place_pages-clause-lasts g c honest j few opened matches placing upto =
    c.place_pages.ensures.lasts honest j few opened matches placing

pub returns-in_err-sync_places-clause-lasts : goal.returns-in_err-sync_places-clause-lasts
returns-in_err-sync_places-clause-lasts g c honest j few opened matches placing upto =
    lasts_on (c.place_pages.ensures.lasts honest j few opened matches placing)
    (c.sync_places.ensures.lasts (c.place_pages.ensures.honest.0 honest) j few opened
    (c.place_pages.ensures.placing honest j opened matches placing))

pub returns-clause-settled : goal.returns-clause-settled
returns-clause-settled g c honest j opened matches placing upto =
    let mid = c.place_pages.ensures.honest.0 honest in
    c.close_gate.ensures.settled (c.sync_places.ensures.honest.0 mid) j opened
    (c.in_ok-sync_places.ensures.placed mid j opened (c.place_pages.ensures.placing honest j opened matches placing)
    (subst (Upto opened _) (sym matches.size) (c.in_ok-place_pages.ensures.upto honest opened matches upto)))

pub returns-clause-lasts : goal.returns-clause-lasts
returns-clause-lasts g c honest j few opened matches placing upto =
    let mid = c.place_pages.ensures.honest.0 honest in
    lasts_on (lasts_on (c.place_pages.ensures.lasts honest j few opened matches placing)
    (c.sync_places.ensures.lasts mid j few opened (c.place_pages.ensures.placing honest j opened matches placing)))
    (c.close_gate.ensures.lasts (c.sync_places.ensures.honest.0 mid) j few opened
    (c.in_ok-sync_places.ensures.placed mid j opened (c.place_pages.ensures.placing honest j opened matches placing)
    (subst (Upto opened _) (sym matches.size) (c.in_ok-place_pages.ensures.upto honest opened matches upto))))
