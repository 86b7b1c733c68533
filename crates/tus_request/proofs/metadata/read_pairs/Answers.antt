use Rattle.std.proofs.Common.{rules, tests, length, map, sym, ◌∙◌, ap}
use Rattle.std.specs.Prelude.{◌==◌}
use Rattle.std.proofs.lemmas.List.{map_push, length_push}
use Rattle.std.proofs.lemmas.Iterator.Consumers.{YieldsList-turn, YieldsList-end}
use Rattle.std.proofs.lemmas.Iterator.Splits.{YieldsList-from_slice_split}
use Rattle.tus_request.specs.Texts.{parts}
use Rattle.tus_request.specs.Metadata.{key_value_of}
use Rattle.tus_request.specs.Pairs.{pair_shown}
use Rattle.tus_request.proofs.PairLemmas.{pairs_bad, pairs_twice, pairs_more, pairs_end}
use Rattle.tus_request.proofs.metadata.read_pairs.Goals as goal

pub returns-in_default : goal.returns-in_default
returns-in_default c =
    let t = YieldsList-turn (YieldsList-from_slice_split _ (λ b. b == 44) c.args.text.now
    (cc) (cc) (cc)
    (λ x r q k. search (rules, tests)))
    c.loop-part.yielded _ c.loop-part.yielded_by _ _ c.in-Some.part c.in-Some.is c.next.ensures.steps in
    sym (sym c.loop-part.invariant ∙ pairs_bad (map pair_shown c.loop-part.pairs.items) (parts c.args.text.now)
    (length c.loop-part.yielded) c.in-Some.part.now t
    (ap key_value_of (sym c.trimmed.ensures) ∙ sym (rw c.in_default.is at c.in_ok-pair.ensures)))

pub returns-then-has_key : goal.returns-then-has_key
returns-then-has_key c =
    let t = YieldsList-turn (YieldsList-from_slice_split _ (λ b. b == 44) c.args.text.now
    (cc) (cc) (cc)
    (λ x r q k. search (rules, tests)))
    c.loop-part.yielded _ c.loop-part.yielded_by _ _ c.in-Some.part c.in-Some.is c.next.ensures.steps in
    let p = ap key_value_of (sym c.trimmed.ensures) ∙ sym (rw c.in-Some-2.is at c.in_ok-pair.ensures) in
    let k = rw c.deref.ensures.value at (sym c.has_key.ensures ∙ c.if-has_key.true) in
    sym (sym c.loop-part.invariant ∙ pairs_twice (map pair_shown c.loop-part.pairs.items) (parts c.args.text.now)
    (length c.loop-part.yielded) c.in-Some.part.now (pair_shown c.in-Some-2.pair) t p k)

pub loop-part-preserved : goal.loop-part-preserved
loop-part-preserved c =
    let t = YieldsList-turn (YieldsList-from_slice_split _ (λ b. b == 44) c.args.text.now
    (cc) (cc) (cc)
    (λ x r q k. search (rules, tests)))
    c.loop-part.yielded _ c.loop-part.yielded_by _ _ c.in-Some.part c.in-Some.is c.next.ensures.steps in
    let p = ap key_value_of (sym c.trimmed.ensures) ∙ sym (rw c.in-Some-2.is at c.in_ok-pair.ensures) in
    let k = rw c.deref.ensures.value at (sym c.has_key.ensures ∙ c.if-has_key.false) in
    let m = pairs_more (map pair_shown c.loop-part.pairs.items) (parts c.args.text.now) (length c.loop-part.yielded)
    c.in-Some.part.now (pair_shown c.in-Some-2.pair) t p k in
    rw (
      c.in_ok-push.ensures.items,
      map_push pair_shown c.loop-part.pairs.items c.in-Some-2.pair,
      length_push
          c.loop-part.yielded c.in-Some.part,
    )
    (sym m ∙ c.loop-part.invariant)

pub returns : goal.returns
returns c =
    let t = YieldsList-end (YieldsList-from_slice_split _ (λ b. b == 44) c.args.text.now
    (cc) (cc) (cc)
    (λ x r q k. search (rules, tests)))
    c.loop-part.yielded _ c.loop-part.yielded_by _ _ c.in-None.is c.next.ensures.steps in
    sym (sym c.loop-part.invariant ∙ pairs_end (map pair_shown c.loop-part.pairs.items) (parts c.args.text.now)
    (length c.loop-part.yielded) t.1)
