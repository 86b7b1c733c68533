use Rattle.std.proofs.Common.{◌≡◌, ◌++◌, flat_map, Bool}
use Rattle.upload_rules.specs.World.{World}
use Rattle.gateway_outside.specs.InOrder.{IsInOrder}
use Rattle.gateway_outside.specs.Above.{after}
use Rattle.gateway_delete.specs.Deleting.{incomplete_of, incomplete_one}
use Rattle.gateway_delete.proofs.incomplete.incomplete_numbers.Given as goal

abbrev pub invariant-loop : goal.invariant-loop
invariant-loop g l =
    (sure : Bool) (w : World) → g.U.Uploads.represents l.fn.uploads sure w → IsInOrder w.store
    → l.numbers.items ++ flat_map incomplete_one (after l.number w.store.uploads) ≡ incomplete_of w.store
