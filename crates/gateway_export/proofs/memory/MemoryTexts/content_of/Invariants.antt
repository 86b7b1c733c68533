use Rattle.std.proofs.Common.{◌≡◌, drop}
use Rattle.gateway_export.specs.Memory.{content_in, files_in}
use Rattle.gateway_export.proofs.memory.MemoryTexts.content_of.Given as goal

abbrev pub invariant-loop-file : goal.invariant-loop-file
invariant-loop-file l =
    content_in l.name (drop l.file-index (files_in l.self)) ≡ content_in l.name (files_in l.self)
