use Rattle.std.proofs.Common.{◌≡◌, ◌≤◌, ◌*◌}
use Rattle.spool_journal.specs.declared.TheConstants.{PAGE}
use Rattle.enc_index.specs.Sets.{IsIndexSet}
use Rattle.spool_pages.specs.View.{state_place}
use Rattle.spool_disk.proofs.Firm.{NoneFailed}
use Rattle.spool_disk.specs.Views.{Lasts}
use Rattle.spool_image.specs.Format.{PrefixStays}
use Rattle.spool_image.specs.Fresh.{IsFreshTo, PreservesFirstPage}
use Rattle.spool_image.proofs.formatting.write_pages.Given as goal

abbrev pub invariant-loop-page : goal.invariant-loop-page
invariant-loop-page g l = record {
  calls : NoneFailed g.D.Disk l.fn.disk l.disk;
  fresh : g.D.Disk.honest l.fn.disk → IsFreshTo l.layout l.indexes (PAGE * l.page) (g.D.Disk.current l.disk);
  prefix : g.D.Disk.honest l.fn.disk → PreservesFirstPage (g.D.Disk.current l.fn.disk) (g.D.Disk.current l.disk)
      (g.D.Disk.unsynced l.fn.disk) (g.D.Disk.unsynced l.disk);
  crash : g.D.Disk.honest l.fn.disk → Lasts g.D.Disk l.fn.disk l.disk
      (PrefixStays (g.D.Disk.current l.fn.disk) (g.D.Disk.unsynced l.fn.disk));
  valid : state_place l.layout ≤ PAGE * l.page → IsIndexSet l.indexes;
}
