use Rattle.std.specs.Prelude.{[]}
use Rattle.common.proofs.trace.Trace.new.Given as goal

abbrev pub ghost-chosen : goal.ghost-chosen
ghost-chosen g a = []
