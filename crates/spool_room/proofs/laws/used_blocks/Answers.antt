use Rattle.spool_room.proofs.Texts.{owned_used}
use Rattle.spool_room.proofs.laws.used_blocks.Goals as goal

pub returns : goal.returns
returns c = owned_used
