use Rattle.spool_disk.proofs.Firm.{lasts_on}
use Rattle.spool_journal.proofs.Recovers.{still_placing, still_upto, head_form}
use Rattle.spool_journal.proofs.recovery.replay_all.Goals as goal

pub returns-in_err-replay-clause-lasts : goal.returns-in_err-replay-clause-lasts
returns-in_err-replay-clause-lasts g c honest bytes here still gate =
    c.replay.ensures.lasts honest bytes here
    (still_placing still gate (head_form _ bytes _ c.requires.few here c.requires.form))

pub returns-in_err-sync_places-clause-lasts : goal.returns-in_err-sync_places-clause-lasts
returns-in_err-sync_places-clause-lasts g c honest bytes here still gate =
    let placing = still_placing still gate (head_form _ bytes _ c.requires.few here c.requires.form) in
    lasts_on (c.replay.ensures.lasts honest bytes here placing)
    (c.sync_places.ensures.lasts (c.replay.ensures.honest.0 honest) _ c.requires.few bytes
    (c.replay.ensures.placing honest bytes here placing))

pub returns-clause-settled : goal.returns-clause-settled
returns-clause-settled g c honest bytes here still gate =
    let placing = still_placing still gate (head_form _ bytes _ c.requires.few here c.requires.form) in
    let mid = c.replay.ensures.honest.0 honest in
    c.close_gate.ensures.settled (c.sync_places.ensures.honest.0 mid) _ bytes
    (c.in_ok-sync_places.ensures.placed mid _ bytes (c.replay.ensures.placing honest bytes here placing)
    (c.in_ok-replay.ensures.upto honest bytes here placing (still_upto bytes _ still)))

pub returns-clause-lasts : goal.returns-clause-lasts
returns-clause-lasts g c honest bytes here still gate =
    let placing = still_placing still gate (head_form _ bytes _ c.requires.few here c.requires.form) in
    let mid = c.replay.ensures.honest.0 honest in
    lasts_on (lasts_on (c.replay.ensures.lasts honest bytes here placing)
    (c.sync_places.ensures.lasts mid _ c.requires.few bytes (c.replay.ensures.placing honest bytes here placing)))
    (c.close_gate.ensures.lasts (c.sync_places.ensures.honest.0 mid) _ c.requires.few bytes
    (c.in_ok-sync_places.ensures.placed mid _ bytes (c.replay.ensures.placing honest bytes here placing)
    (c.in_ok-replay.ensures.upto honest bytes here placing (still_upto bytes _ still))))
