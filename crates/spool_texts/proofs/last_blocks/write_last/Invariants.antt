use Rattle.std.proofs.Common.{◌≡◌, ◌*◌, ◌+◌, ◌-◌, ◌++◌, length, take, min}
use Rattle.spool_journal.specs.declared.TheConstants.{PAGE}
use Rattle.spool_disk.proofs.Firm.{NoneFailed}
use Rattle.spool_disk.specs.Views.{Lasts}
use Rattle.spool_journal.specs.Image.{text_page}
use Rattle.spool_texts.specs.TextOn.{text_on, blocks_on}
use Rattle.spool_texts.specs.Written.{WritesIn, IsImageBut}
use Rattle.spool_texts.proofs.last_blocks.write_last.Given as goal

abbrev pub invariant-loop-at : goal.invariant-loop-at
invariant-loop-at g l = record {
  calls : NoneFailed g.D.Disk l.fn.disk l.disk;
  text : g.D.Disk.honest l.fn.disk → text_on (g.D.Disk.current l.disk) (text_page l.layout) l.list
      (PAGE * l.full + min (length l.last) (PAGE * (l.at - l.full)))
      ≡ blocks_on (g.D.Disk.current l.fn.disk) (text_page l.layout) (take l.full l.list) ++ take
      (PAGE * (l.at - l.full)) l.last;
  writes : g.D.Disk.honest l.fn.disk → WritesIn (text_page l.layout) l.list (g.D.Disk.current l.fn.disk)
      (g.D.Disk.current l.disk) (g.D.Disk.unsynced l.fn.disk) (g.D.Disk.unsynced l.disk);
  lasts : g.D.Disk.honest l.fn.disk → Lasts g.D.Disk l.fn.disk l.disk
      (IsImageBut (text_page l.layout) l.list (g.D.Disk.current l.fn.disk) (g.D.Disk.unsynced l.fn.disk));
}
