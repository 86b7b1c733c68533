use Rattle.tus_laws.proofs.Changes.{refused_same}
use Rattle.tus_laws.proofs.Winners.{later_refused, one_accepted, gone_refused}
use Rattle.tus_laws.proofs.laws.one_winner.Goals as goal

pub returns-clause-one : goal.returns-clause-one
returns-clause-one c = one_accepted

pub returns-clause-later : goal.returns-clause-later
returns-clause-later c = later_refused

pub returns-clause-gone : goal.returns-clause-gone
returns-clause-gone c = gone_refused

pub returns-clause-loser : goal.returns-clause-loser
returns-clause-loser c = refused_same
