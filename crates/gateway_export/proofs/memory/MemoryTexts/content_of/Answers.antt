use Rattle.std.proofs.Common.{rules}
use Rattle.gateway_export.specs.Memory.{files_in}
use Rattle.gateway_export.proofs.Finding.{found_here, not_here, nowhere}
use Rattle.gateway_export.proofs.memory.MemoryTexts.content_of.Goals as goal

pub returns-then-eq : goal.returns-then-eq
returns-then-eq c =
    rw c.as_slice.ensures.value
    (found_here c.args.name.now (files_in c.args.self.now) c.loop-file.file-index c.file-item.result
    c.loop-file.invariant (search rules) (search rules) (search rules))

pub loop-file-preserved : goal.loop-file-preserved
loop-file-preserved c =
    not_here c.args.name.now (files_in c.args.self.now) c.loop-file.file-index c.file-item.result c.loop-file.invariant
    (search rules) (search rules) (search rules)

pub returns : goal.returns
returns c =
    nowhere c.args.name.now (files_in c.args.self.now) c.loop-file.file-index c.loop-file.invariant (search rules)
