use Rattle.spool_pages.proofs.Resting.{rests_preserve, rests_writes, rests_aside, rests_but}
use Rattle.spool_pages.proofs.rests.resting_writes.Goals as goal

pub returns-clause-reads : goal.returns-clause-reads
returns-clause-reads g c v old new rests preserves = rests_preserve rests preserves

pub returns-clause-writes : goal.returns-clause-writes
returns-clause-writes g c v n blocks old new size rests unowned writes = rests_writes blocks size rests unowned writes

pub returns-clause-aside : goal.returns-clause-aside
returns-clause-aside g c v n blocks disk image size rests unowned is = rests_aside blocks image size rests unowned is

pub returns-clause-but : goal.returns-clause-but
returns-clause-but g c v n blocks disk image size rests unowned is = rests_but blocks image size rests unowned is
