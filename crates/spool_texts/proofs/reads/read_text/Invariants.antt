use Rattle.std.proofs.Common.{◌-◌, ◌≡◌, ◌≤◌, ◌+◌, get_or, ℕ, ◌<◌}
use Rattle.common.specs.Given.{MoreReads}
use Rattle.spool_disk.specs.Disk.{IsImage, Preserves}
use Rattle.spool_disk.specs.Views.{Lasts}
use Rattle.spool_journal.specs.Image.{text_page}
use Rattle.spool_texts.specs.Reading.{byte_on}
use Rattle.spool_texts.proofs.reads.read_text.Given as goal

abbrev pub invariant-loop-done : goal.invariant-loop-done
invariant-loop-done g l = record {
  size : g.D.Disk.size l.disk ≡ g.D.Disk.size l.fn.disk;
  honest : g.D.Disk.honest l.fn.disk → g.D.Disk.honest l.disk;
  back : g.D.Disk.honest l.disk → g.D.Disk.honest l.fn.disk;
  later : g.D.Disk.moment l.fn.disk ≤ g.D.Disk.moment l.disk;
  reads : MoreReads (g.D.Disk.reads l.fn.disk) (g.D.Disk.reads l.disk);
  counts : g.D.Disk.failures l.disk ≡ g.D.Disk.failures l.fn.disk;
  preserves : g.D.Disk.honest l.fn.disk → Preserves (g.D.Disk.current l.fn.disk) (g.D.Disk.current l.disk)
      (g.D.Disk.unsynced l.fn.disk)
      (g.D.Disk.unsynced l.disk);
  lasts : g.D.Disk.honest l.fn.disk → Lasts g.D.Disk l.fn.disk l.disk
      (IsImage (g.D.Disk.current l.fn.disk) (g.D.Disk.unsynced l.fn.disk));
  within : l.done ≤ l.count;
  bytes : g.D.Disk.honest l.fn.disk → (k : ℕ) → k < l.done → get_or l.buf k 0 ≡ byte_on (g.D.Disk.current l.fn.disk)
      (text_page l.layout) l.list (l.at + k);
  rest : g.D.Disk.honest l.fn.disk → (k : ℕ) → l.done ≤ k → get_or l.buf k 0 ≡ get_or l.fn.buf k 0;
}

abbrev pub decreases-loop-done : goal.decreases-loop-done
decreases-loop-done g l = l.count - l.done
