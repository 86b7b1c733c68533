use Rattle.std.proofs.Common.{ℕ, ◌*◌, ◌+◌}
use Rattle.spool_journal.specs.declared.TheConstants.{PAGE}
use Rattle.spool_disk.proofs.Firm.{NoneFailed}
use Rattle.spool_disk.specs.Given.{Between, ReadsOnce}
use Rattle.spool_disk.specs.Views.{Lasts}
use Rattle.spool_journal.specs.Image.{replayed}
use Rattle.spool_journal.specs.Phases.{Placing, Upto, ReadsAs, HeadOf}
use Rattle.spool_journal.proofs.recovery.replay.Given as goal

abbrev pub invariant-loop-k : goal.invariant-loop-k
invariant-loop-k g l = record {
  calls : NoneFailed g.D.Disk l.fn.disk l.disk;
  reads : ReadsOnce (Between 12288 (PAGE * (3 + l.k))) (g.D.Disk.reads l.fn.disk) (g.D.Disk.reads l.disk);
  placing : g.D.Disk.honest l.fn.disk → (opened : ℕ → ℕ) → HeadOf opened l.head
      → Placing l.journal opened (g.D.Disk.current l.fn.disk) (g.D.Disk.unsynced l.fn.disk)
      → Placing l.journal opened (g.D.Disk.current l.disk) (g.D.Disk.unsynced l.disk);
  upto : g.D.Disk.honest l.fn.disk → (opened : ℕ → ℕ) → HeadOf opened l.head
      → Placing l.journal opened (g.D.Disk.current l.fn.disk) (g.D.Disk.unsynced l.fn.disk)
      → Upto opened (g.D.Disk.current l.fn.disk) 0 → Upto opened (g.D.Disk.current l.disk) l.k;
  lasts : g.D.Disk.honest l.fn.disk → (opened : ℕ → ℕ) → HeadOf opened l.head
      → Placing l.journal opened (g.D.Disk.current l.fn.disk) (g.D.Disk.unsynced l.fn.disk)
      → Lasts g.D.Disk l.fn.disk l.disk (λ image. ReadsAs l.journal image (replayed opened));
}
