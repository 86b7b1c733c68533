use Rattle.std.proofs.Common.{◌≡◌, ◌*◌, ◌+◌, ℕ, length}
use Rattle.spool_disk.specs.Given.{Between, ReadsGave, ReadsOnce}
use Rattle.spool_journal.specs.declared.TheConstants.{PAGE}
use Rattle.spool_load.specs.Reads.{OnlyReads, IsReadAt}
use Rattle.spool_pages.specs.View.{index_place}
use Rattle.spool_load.proofs.reading.load_area.Given as goal

abbrev pub invariant-loop-page : goal.invariant-loop-page
invariant-loop-page g l = record {
  reads : OnlyReads g.D.Disk l.fn.disk l.disk;
  once : ReadsOnce (Between (index_place l.layout) (index_place l.layout + PAGE * l.page)) (g.D.Disk.reads l.fn.disk)
      (g.D.Disk.reads l.disk);
  counts : g.D.Disk.failures l.disk ≡ g.D.Disk.failures l.fn.disk;
  long : length l.area.items ≡ PAGE * l.page;
  read : (bytes : ℕ → ℕ) → ReadsGave bytes (g.D.Disk.reads l.fn.disk) (g.D.Disk.reads l.disk)
      → IsReadAt bytes (index_place l.layout) l.area.items;
}
