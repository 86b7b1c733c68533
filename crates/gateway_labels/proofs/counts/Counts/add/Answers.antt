use Rattle.std.proofs.Common.{◌∙◌, ◌++◌, sym, subst, List, ℕ}
use Rattle.std.proofs.lemmas.Iterator.{YieldsList-from_chars}
use Rattle.std.proofs.lemmas.Iterator.Consumers.{YieldsList-end}
use Rattle.std.proofs.lemmas.List.{map-id}
use Rattle.gateway_labels.specs.Counted.{IsCounted}
use Rattle.gateway_labels.proofs.counts.Counts.add.Goals as goal

pub returns : goal.returns
returns c before is =
    let so_far = c.loop-c.yielded in
    let given = YieldsList-from_chars c.args.text.now c.utf8.text cc in
    let end = YieldsList-end given so_far _ c.loop-c.yielded_by _ _ c.in-None.is c.next.ensures.steps in
    subst (λ (text : List ℕ). IsCounted c.loop-c.self (before ++ text)) (sym (map-id so_far) ∙ end.0)
    (c.loop-c.invariant before is)
