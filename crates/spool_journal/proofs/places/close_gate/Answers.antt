use Rattle.std.proofs.Common.{refl}
use Rattle.spool_disk.proofs.Firm.{on_ok}
use Rattle.spool_journal.proofs.Gate.{gate_now, settled, closing_image}
use Rattle.spool_journal.proofs.SyncSteps.{gate_written, gate_synced}
use Rattle.spool_journal.proofs.places.close_gate.Goals as goal

pub returns-in_err-write_at-clause-lasts : goal.returns-in_err-write_at-clause-lasts
returns-in_err-write_at-clause-lasts g c honest j few opened placed =
    gate_written _ 0 placed.is_synced (c.write_at.ensures.writes honest) (c.write_at.ensures.time honest)
    (λ image. closing_image few placed)

pub returns-clause-lasts : goal.returns-clause-lasts
returns-clause-lasts g c honest j few opened placed =
    let mid = c.write_at.ensures.honest.0 honest in
    gate_synced _ 0 placed.is_synced (c.write_at.ensures.writes honest) (c.write_at.ensures.time honest)
    (λ image. closing_image few placed) (c.sync.ensures.syncs mid) (c.sync.ensures.time mid)

pub returns-clause-settled : goal.returns-clause-settled
returns-clause-settled g c honest j opened placed =
    let syncs = c.sync.ensures.syncs (c.write_at.ensures.honest.0 honest) in
    on_ok c.sync.result (λ done. settled placed (gate_now 0 (c.in_ok-write_at.ensures.writes honest) refl syncs done))
