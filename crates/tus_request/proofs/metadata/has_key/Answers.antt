use Rattle.std.proofs.Common.{sym, ◌∙◌}
use Rattle.tus_request.proofs.PairLemmas.{has_key_turn}
use Rattle.tus_request.proofs.metadata.has_key.Goals as goal

pub returns-then-eq : goal.returns-then-eq
returns-then-eq c =
    let t = has_key_turn c.args.key.now c.args.pairs.now c.loop-pair.pair-index c.pair-item.result c.loop-pair-test.true
    c.pair-item.is in
    sym (sym c.loop-pair.invariant ∙ rw (sym c.eq.ensures ∙ c.if-eq.true) at t)

pub loop-pair-preserved : goal.loop-pair-preserved
loop-pair-preserved c =
    let t = has_key_turn c.args.key.now c.args.pairs.now c.loop-pair.pair-index c.pair-item.result c.loop-pair-test.true
    c.pair-item.is in
    sym (rw (sym c.eq.ensures ∙ c.if-eq.false) at t) ∙ c.loop-pair.invariant
