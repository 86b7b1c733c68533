use Rattle.gateway_outside.specs.InOrder.{shown_in_order}
use Rattle.gateway_outside.proofs.laws.shown_in_order.Goals as goal

pub returns : goal.returns
returns c = shown_in_order
