use Rattle.std.proofs.Common.{length, None, ◌-◌, ◌≡◌, ◌≤◌, ◌<◌, ◌*◌, ◌+◌, ◌++◌, take}
use Rattle.spool_journal.specs.declared.TheConstants.{PAGE}
use Rattle.spool_disk.proofs.Firm.{NoneFailed}
use Rattle.spool_disk.specs.Views.{Lasts}
use Rattle.spool_journal.specs.Image.{text_page}
use Rattle.spool_texts.specs.Drafts.{draft_bytes, content_on, held_count, len_of, IsReserved, Takes}
use Rattle.spool_texts.specs.Written.{WritesIn, IsImageBut}
use Rattle.spool_texts.proofs.block_text.BlockText.put.Given as goal

abbrev pub invariant-loop-done : goal.invariant-loop-done
invariant-loop-done g l = record {
  calls : NoneFailed g.D.Disk l.fn.disk l.disk;
  within : l.done ≤ length l.bytes;
  begun : l.self.unread ≡ None;
  space : len_of l.fn.self + length l.bytes ≤ PAGE * l.self.room;
  few : length l.self.unfinished < PAGE;
  some : 1 ≤ l.done → 1 ≤ length l.self.blocks;
  held : held_count l.self ≡ len_of l.fn.self + l.done;
  content : g.D.Disk.honest l.fn.disk → content_on (g.D.Disk.current l.disk) (text_page l.layout)
      l.self ≡ draft_bytes (g.D.Disk.current l.fn.disk) (text_page l.layout) l.fn.self ++ take l.done l.bytes;
  takes : Takes l.fn.blocks l.blocks l.fn.self.blocks l.self.blocks;
  reserved : IsReserved l.blocks l.self.blocks;
  writes : g.D.Disk.honest l.fn.disk → WritesIn (text_page l.layout) l.self.blocks
      (g.D.Disk.current l.fn.disk) (g.D.Disk.current l.disk) (g.D.Disk.unsynced l.fn.disk) (g.D.Disk.unsynced l.disk);
  lasts : g.D.Disk.honest l.fn.disk → Lasts g.D.Disk l.fn.disk l.disk
      (IsImageBut (text_page l.layout) l.self.blocks (g.D.Disk.current l.fn.disk) (g.D.Disk.unsynced l.fn.disk));
}

abbrev pub decreases-loop-done : goal.decreases-loop-done
decreases-loop-done g l = length l.bytes - l.done
