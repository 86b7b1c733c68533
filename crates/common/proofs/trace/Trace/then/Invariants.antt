use Rattle.std.specs.Prelude.{◌++◌}
use Rattle.common.proofs.trace.Trace.then.Given as goal

abbrev pub ghost-chosen : goal.ghost-chosen
ghost-chosen g a = a._from.now.0.now.items ++ a._from.now.1.now
