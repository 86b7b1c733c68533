use Rattle.spool_room.proofs.Needs.{wants_some, wants_none, wants_fault}
use Rattle.spool_room.proofs.laws.draft_needs.Goals as goal

pub returns-clause-some : goal.returns-clause-some
returns-clause-some c = wants_some

pub returns-clause-none : goal.returns-clause-none
returns-clause-none c = wants_none

pub returns-clause-fault : goal.returns-clause-fault
returns-clause-fault c = wants_fault
