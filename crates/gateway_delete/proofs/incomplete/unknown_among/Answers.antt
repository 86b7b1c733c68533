use Rattle.std.proofs.Common.{◌∙◌, ap, not, option_copied, sym}
use Rattle.upload_rules.specs.Store.{upload_of}
use Rattle.upload_rules.specs.World.{is_there}
use Rattle.gateway_delete.proofs.Found.{found_next, none_yet}
use Rattle.gateway_delete.proofs.Recorded.{there_is}
use Rattle.gateway_delete.proofs.incomplete.unknown_among.Goals as goal

pub loop-number-preserved : goal.loop-number-preserved
loop-number-preserved g c sure w represents =
    none_yet (λ n. not (is_there (upload_of w.store n))) c.args.numbers.now c.loop-number.number-index 0
    c.loop-number-test.true (c.loop-number.invariant sure w represents)
    (ap not
    (there_is w.store.indexes _ _ (option_copied c.record.result) (c.record.ensures.recorded sure w represents)
    ∙ ap (λ r. is_there (option_copied r)) c.in-Some.is))

pub returns-in_default : goal.returns-in_default
returns-in_default g c sure w represents =
    sym
    (found_next (λ n. not (is_there (upload_of w.store n))) c.args.numbers.now c.loop-number.number-index 0
    c.loop-number-test.true (c.loop-number.invariant sure w represents)
    (ap not
    (there_is w.store.indexes _ _ (option_copied c.record.result) (c.record.ensures.recorded sure w represents)
    ∙ ap (λ r. is_there (option_copied r)) c.in_default.is)))
