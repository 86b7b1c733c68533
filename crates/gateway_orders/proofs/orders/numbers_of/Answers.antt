use Rattle.std.proofs.Common.{◌≡◌, ◌∷◌, [], append_assoc, append-nil}
use Rattle.clap.specs.Words.{found_of, values_left}
use Rattle.gateway_orders.proofs.Numbers.{none_written, numbers_found, one_written}
use Rattle.gateway_orders.proofs.orders.numbers_of.Goals as goal

pub loop-number-init : goal.loop-number-init
loop-number-init c = λ rest written.
    let read = c.in-Some.read in
    let whole : c.into_iter-number-iterator.result ≡ read = c.into_iter-number-iterator.ensures.into_iter_gives in
    rw c.new-numbers.ensures.items
    (numbers_found (found_of c.args.given.now) c.args.name.now (values_left read) rest
    c.in-Some.ensures (rw whole at written))

pub loop-number-preserved : goal.loop-number-preserved
loop-number-preserved c = λ rest written.
    let step = rw c.in-Ok.is at c.in-Some-number.ensures.steps in
    rw (c.in_ok-push.ensures.items, append_assoc)
    (c.loop-number.invariant (c.in-Ok.number ∷ rest) (one_written _ _ c.in-Ok.number rest step written))

pub returns : goal.returns
returns c = rw append-nil at (c.loop-number.invariant [] (none_written _ _ c.in-None.ensures.steps))
