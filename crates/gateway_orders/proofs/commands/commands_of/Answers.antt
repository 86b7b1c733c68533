use Rattle.clap.specs.Words.{shape_of}
use Rattle.gateway_orders.specs.Program.{shape_for}
use Rattle.gateway_orders.proofs.Adding.{one_more}
use Rattle.gateway_orders.proofs.commands.commands_of.Goals as goal

pub loop-described-preserved : goal.loop-described-preserved
loop-described-preserved c =
    let loop = c.loop-described in
    one_more shape_of shape_for loop.commands.items _ c.in_ok-command.field-0 c.args.all.now loop.described-index _
    loop.invariant c.loop-described-test.true c.in_ok-push.ensures.items c.in_ok-command.ensures
