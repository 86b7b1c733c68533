use Rattle.std.proofs.Common.{arith}
use Rattle.spool_room.proofs.Rule.{rule_holds}
use Rattle.spool_room.proofs.laws.room.Goals as goal

pub returns : goal.returns
returns c w slots lists d held = rule_holds w slots lists d c.args.blocks.now (omega arith) held
