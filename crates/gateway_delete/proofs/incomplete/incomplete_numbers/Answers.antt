use Rattle.gateway_outside.specs.Above.{reported_first, reported_next, reported_none}
use Rattle.gateway_delete.specs.Deleting.{incomplete_of, incomplete_one, incomplete_record}
use Rattle.gateway_delete.proofs.Recorded.{incomplete_is}
use Rattle.gateway_delete.proofs.incomplete.incomplete_numbers.Goals as goal

pub loop-init : goal.loop-init
loop-init g c sure w represents order =
    reported_first incomplete_one c.new-numbers.result.items w.store.uploads order.some c.new-numbers.ensures.items

pub returns-in_default-clause-numbers : goal.returns-in_default-clause-numbers
returns-in_default-clause-numbers g c sure w represents order =
    reported_none w.store.indexes incomplete_one (incomplete_of w.store) c.loop.numbers.items w.store.uploads
    c.loop.number _ (c.record_after.ensures sure w represents) (c.loop.invariant sure w represents order)
    c.in_default.is

pub loop-preserved : goal.loop-preserved
loop-preserved g c sure w represents order =
    reported_next w.store.indexes incomplete_one (incomplete_of w.store) c.loop.numbers.items w.store.uploads
    c.loop.number _ (c.record_after.ensures sure w represents) (c.loop.invariant sure w represents order)
    incomplete_record
    (incomplete_is w.store.indexes) c.in-Some.record c.push_incomplete.new.numbers.items order.rising c.in-Some.is
    c.in_ok-push_incomplete.ensures
