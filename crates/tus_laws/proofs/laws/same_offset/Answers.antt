use Rattle.tus_laws.proofs.Growing.{later_grows, later_same, later_gone}
use Rattle.tus_laws.proofs.laws.same_offset.Goals as goal

pub returns : goal.returns
returns c = record { grows = later_grows; same = later_same; gone = later_gone }
