use Rattle.std.proofs.Common.{refl, rules}
use Rattle.gateway_export.proofs.memory.MemoryTexts.add.Goals as goal

pub returns-in-Ok-clause-added : goal.returns-in-Ok-clause-added
returns-in-Ok-clause-added c =
    (record { name = c.in_ok-name_of.name_of; content = c.args.content }, search rules, search rules, refl)
