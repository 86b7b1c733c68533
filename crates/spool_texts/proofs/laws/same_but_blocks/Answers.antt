use Rattle.std.proofs.Common.{arith}
use Rattle.spool_journal.specs.Image.{journal_pages}
use Rattle.spool_texts.proofs.Asides.{frame_blocks}
use Rattle.spool_texts.proofs.laws.same_but_blocks.Goals as goal

pub returns : goal.returns
returns c blocks was image = frame_blocks (journal_pages c.args.layout.now) blocks was image (omega arith)
