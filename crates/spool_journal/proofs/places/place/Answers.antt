use Rattle.std.proofs.Common.{rules}
use Rattle.spool_disk.proofs.Firm.{lasts_call, on_ok}
use Rattle.spool_journal.proofs.Gate.{opened, placing_writes, upto_writes, placing_image}
use Rattle.spool_journal.proofs.places.place.Goals as goal

pub returns-clause-placing : goal.returns-clause-placing
returns-clause-placing g c honest j i opened placing lt e =
    placing_writes i _ _ placing lt e (search rules) (c.write_at.ensures.writes honest)

pub returns-clause-upto : goal.returns-clause-upto
returns-clause-upto g c honest i opened upto e same =
    on_ok c.write_at.result (λ done. upto_writes opened i _ _ upto e (search rules) same
    (c.write_at.ensures.writes honest) done)

pub returns-clause-lasts : goal.returns-clause-lasts
returns-clause-lasts g c honest j i few opened placing lt e =
    lasts_call (c.write_at.ensures.time honest)
    (λ image is. placing_image few (returns-clause-placing g c honest j i opened placing lt e) is)
