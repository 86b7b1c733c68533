use Rattle.gateway_export.proofs.Finding.{holds_same}
use Rattle.gateway_export.proofs.memory.MemoryTextsFolder.has_at.Goals as goal

pub returns-in-None-clause-preserves : goal.returns-in-None-clause-preserves
returns-in-None-clause-preserves c files held =
    holds_same c.args.self.now c.miss.new.self c.miss.ensures.texts files held
