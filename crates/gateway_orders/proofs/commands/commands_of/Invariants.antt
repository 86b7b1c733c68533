use Rattle.std.proofs.Common.{◌≡◌, map, take}
use Rattle.clap.specs.Words.{shape_of}
use Rattle.gateway_orders.specs.Program.{shape_for}
use Rattle.gateway_orders.proofs.commands.commands_of.Given as goal

abbrev pub invariant-loop-described : goal.invariant-loop-described
invariant-loop-described l = map shape_of l.commands.items ≡ map shape_for (take l.described-index l.all)
