use Rattle.spool_room.proofs.Rule.{rule_holds}
use Rattle.spool_room.proofs.laws.held_room.Goals as goal

pub returns : goal.returns
returns c = rule_holds
