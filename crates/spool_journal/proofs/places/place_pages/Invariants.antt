use Rattle.std.proofs.Common.{◌≡◌, ◌≤◌, ℕ}
use Rattle.spool_disk.proofs.Firm.{NoneFailed}
use Rattle.spool_disk.specs.Views.{Lasts}
use Rattle.spool_journal.specs.Image.{replayed}
use Rattle.spool_journal.specs.Phases.{Matches, Placing, Upto, ReadsAs}
use Rattle.spool_journal.proofs.places.place_pages.Given as goal

abbrev pub invariant-loop-i : goal.invariant-loop-i
invariant-loop-i g l = record {
  calls : NoneFailed g.D.Disk l.fn.disk l.disk;
  reads : g.D.Disk.reads l.disk ≡ g.D.Disk.reads l.fn.disk;
  placing : g.D.Disk.honest l.fn.disk → (j : ℕ) (opened : ℕ → ℕ) → Matches l.items opened
      → Placing j opened (g.D.Disk.current l.fn.disk) (g.D.Disk.unsynced l.fn.disk)
      → Placing j opened (g.D.Disk.current l.disk) (g.D.Disk.unsynced l.disk);
  upto : g.D.Disk.honest l.fn.disk → (opened : ℕ → ℕ) → Matches l.items opened
      → Upto opened (g.D.Disk.current l.fn.disk) 0
      → Upto opened (g.D.Disk.current l.disk) l.i;
  lasts : g.D.Disk.honest l.fn.disk → (j : ℕ) → j ≤ 385 → (opened : ℕ → ℕ) → Matches l.items opened
      → Placing j opened (g.D.Disk.current l.fn.disk) (g.D.Disk.unsynced l.fn.disk)
      → Lasts g.D.Disk l.fn.disk l.disk (λ image. ReadsAs j image (replayed opened));
}
