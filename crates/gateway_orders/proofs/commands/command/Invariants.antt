use Rattle.std.proofs.Common.{◌≡◌, map, take}
use Rattle.clap.specs.Words.{rule_of}
use Rattle.gateway_orders.specs.Program.{rule_for}
use Rattle.gateway_orders.proofs.commands.command.Given as goal

abbrev pub invariant-loop-given : goal.invariant-loop-given
invariant-loop-given l = map rule_of l.args.items ≡ map rule_for (take l.given-index l.given-items)
