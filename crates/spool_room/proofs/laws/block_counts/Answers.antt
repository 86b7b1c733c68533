use Rattle.spool_blocks.proofs.Counts.{count_law}
use Rattle.spool_room.proofs.laws.block_counts.Goals as goal

pub returns : goal.returns
returns c h size below = count_law h.rows h.reserved size below
