use Rattle.std.proofs.Common.{◌≡◌, ◌≤◌, ℕ, length}
use Rattle.spool_disk.proofs.Firm.{NoneFailed}
use Rattle.spool_disk.specs.Views.{Lasts}
use Rattle.spool_journal.specs.Phases.{Idle, IsBefore, Staging, Copied}
use Rattle.spool_journal.proofs.staging.stage_pages.Given as goal

abbrev pub invariant-loop-i : goal.invariant-loop-i
invariant-loop-i g l = record {
  calls : NoneFailed g.D.Disk l.fn.disk l.disk;
  reads : g.D.Disk.reads l.disk ≡ g.D.Disk.reads l.fn.disk;
  staging : g.D.Disk.honest l.fn.disk → (j : ℕ) → length l.items ≤ j → Staging j (g.D.Disk.current l.fn.disk)
      (g.D.Disk.unsynced l.fn.disk) (g.D.Disk.current l.disk) (g.D.Disk.unsynced l.disk);
  copied : g.D.Disk.honest l.fn.disk → Copied l.items (g.D.Disk.current l.disk) l.i;
  lasts : g.D.Disk.honest l.fn.disk → (j : ℕ) → length l.items ≤ j → Idle j (g.D.Disk.current l.fn.disk)
      (g.D.Disk.unsynced l.fn.disk) → Lasts g.D.Disk l.fn.disk l.disk
      (IsBefore j (g.D.Disk.current l.fn.disk) (g.D.Disk.unsynced l.fn.disk));
}
