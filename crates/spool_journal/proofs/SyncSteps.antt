-- A sync while pages are placed, and the write of the gate with its sync.
use Rattle.std.proofs.Common.{ℕ, ◌≤◌, [], ◌∷◌, Result, IsOk, OnOk}
use Rattle.spool_journal.specs.declared.TheConstants.{PAGE}
use Rattle.spool_disk.specs.Disk.{Syncs, Elapses, Writes}
use Rattle.spool_disk.specs.Views.{Lasts}
use Rattle.spool_disk.specs.declared.disk.Disk.{Ghosts}
use Rattle.spool_disk.proofs.Firm.{on_ok, lasts_call, lasts_on}
use Rattle.spool_journal.specs.Image.{count, replayed}
use Rattle.spool_journal.specs.Phases.{ReadsAs, Placing, Upto, PagesPlaced}
use Rattle.spool_journal.proofs.Steps.{sync_image}
use Rattle.spool_journal.proofs.Gate.{placed_syncs, placing_image, gate_image, GateApart}

pub placed_after : {T E : Type 0} {j : ℕ} {opened current current' : ℕ → ℕ} {unsynced unsynced' : ℕ
    → Type 0} (r : Result T E)
    → Placing j opened current unsynced → Upto opened current (count opened)
    → Syncs (IsOk r) current current' unsynced unsynced'
    → OnOk r (PagesPlaced j opened current' unsynced')
placed_after r placing upto syncs = on_ok r (λ done. placed_syncs placing upto syncs done)

pub image_after : {D : Type 0} {disk : Ghosts D} {old new : D} {j : ℕ} {opened : ℕ → ℕ} {done : Type 0} → j ≤ 385
    → Placing j opened (disk.current old) (disk.unsynced old)
    → Syncs done (disk.current old) (disk.current new) (disk.unsynced old)
    (disk.unsynced new)
    → Elapses (disk.moment old) (disk.moment new) (disk.left_since old) (disk.left_since new) (disk.current new)
    (disk.unsynced new) → Lasts disk old new (λ image. ReadsAs j image (replayed opened))
image_after few placing syncs elapses = lasts_call elapses (λ image is. placing_image few placing (sync_image syncs is))

-- what holds of each image that has the bytes before but for the gate's
module _ {D : Type 0} {disk : Ghosts D} {old : D} {done : Type 0} {P : (ℕ → ℕ) → Type 0} (mid : D) (v : ℕ)
    (is_synced : (p : ℕ) → disk.unsynced old p → ⊥)
    (writes : Writes PAGE (v ∷ []) done (disk.current old) (disk.current mid) (disk.unsynced old) (disk.unsynced mid))
    (elapses : Elapses (disk.moment old) (disk.moment mid) (disk.left_since old) (disk.left_since mid)
    (disk.current mid) (disk.unsynced mid))
    (holds : (image : ℕ → ℕ) → GateApart image (disk.current old) → P image) where
  pub gate_written : Lasts disk old mid P
  gate_written = lasts_call elapses (λ image is. holds image (gate_image v is_synced writes is))

  pub gate_synced : {new : D} {synced : Type 0}
      → Syncs synced (disk.current mid) (disk.current new) (disk.unsynced mid) (disk.unsynced new)
      → Elapses (disk.moment mid) (disk.moment new) (disk.left_since mid) (disk.left_since new) (disk.current new)
      (disk.unsynced new) → Lasts disk old new P
  gate_synced syncs after = lasts_on gate_written
      (lasts_call after (λ image is. holds image (gate_image v is_synced writes (sync_image syncs is))))
