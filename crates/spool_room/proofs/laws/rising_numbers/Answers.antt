use Rattle.spool_room.proofs.Numbers.{rising_apart}
use Rattle.spool_room.proofs.laws.rising_numbers.Goals as goal

pub returns : goal.returns
returns c = rising_apart
