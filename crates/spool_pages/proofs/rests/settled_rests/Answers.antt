use Rattle.spool_pages.proofs.Resting.{settled_rests, rests_idle}
use Rattle.spool_pages.proofs.rests.settled_rests.Goals as goal

pub returns-clause-rests : goal.returns-clause-rests
returns-clause-rests g c v n bytes disk size settled encodes = settled_rests size settled encodes

pub returns-clause-idle : goal.returns-clause-idle
returns-clause-idle g c v n disk size rests = rests_idle size rests
