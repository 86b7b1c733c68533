use Rattle.tus_session.proofs.Unmade.{memory_same, fault_same}
use Rattle.tus_laws.proofs.Changes.{served_changed}
use Rattle.tus_laws.proofs.laws.one_commit.Goals as goal

pub returns : goal.returns
returns c = record { served = served_changed; memory = memory_same; fault = fault_same }
