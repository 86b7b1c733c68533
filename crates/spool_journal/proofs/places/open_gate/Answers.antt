use Rattle.std.proofs.Common.{refl}
use Rattle.spool_disk.proofs.Firm.{on_ok}
use Rattle.spool_journal.proofs.Gate.{gate_now, opened, opening_image}
use Rattle.spool_journal.proofs.SyncSteps.{gate_written, gate_synced}
use Rattle.spool_journal.proofs.places.open_gate.Goals as goal

pub returns-in_err-write_at-clause-lasts : goal.returns-in_err-write_at-clause-lasts
returns-in_err-write_at-clause-lasts g c honest j few pages was ready =
    gate_written _ 165 ready.is_synced (c.write_at.ensures.writes honest) (c.write_at.ensures.time honest)
    (λ image. opening_image few ready)

pub returns-clause-lasts : goal.returns-clause-lasts
returns-clause-lasts g c honest j few pages was ready =
    let mid = c.write_at.ensures.honest.0 honest in
    gate_synced _ 165 ready.is_synced (c.write_at.ensures.writes honest) (c.write_at.ensures.time honest)
    (λ image. opening_image few ready) (c.sync.ensures.syncs mid) (c.sync.ensures.time mid)

pub returns-clause-opened : goal.returns-clause-opened
returns-clause-opened g c honest j few pages was ready =
    let syncs = c.sync.ensures.syncs (c.write_at.ensures.honest.0 honest) in
    on_ok c.sync.result (λ done. opened few ready
    (gate_now 165 (c.in_ok-write_at.ensures.writes honest) refl syncs done))
