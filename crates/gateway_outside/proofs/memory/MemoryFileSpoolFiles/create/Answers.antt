use Rattle.gateway_outside.specs.Held.{others_same}
use Rattle.gateway_outside.proofs.memory.MemoryFileSpoolFiles.create.Goals as goal

pub returns-then-not-is_at-clause-failed : goal.returns-then-not-is_at-clause-failed
returns-then-not-is_at-clause-failed c disks held = others_same _ disks c.args.path.now held
