use Rattle.tus_laws.proofs.Growing.{always_known}
use Rattle.tus_laws.proofs.laws.all_bytes.Goals as goal

pub returns : goal.returns
returns c = record { none = λ x n u there. absurd cc; preserved = always_known }
