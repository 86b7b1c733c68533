use Rattle.spool_room.proofs.Drafts.{reserved_needs}
use Rattle.spool_room.proofs.laws.reserved_blocks.Goals as goal

pub returns : goal.returns
returns c = reserved_needs
