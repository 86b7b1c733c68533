use Rattle.std.proofs.Common.{◌≡◌, ◌+◌, ◌∷◌, ◌∙◌, [], Some, ap, arith, length, refl}
use Rattle.std.proofs.lemmas.List.{length-append}
use Rattle.std.proofs.lemmas.List.Elements.{All-cons, All-nil, All-pop}
use Rattle.common.specs.declared.trace.Trace.{Trace}
use Rattle.gateway_serve.specs.Drains.{IsDrain, IsLeft}
use Rattle.gateway_serve.specs.declared.drains.Drained.{Drained}
use Rattle.gateway_serve.proofs.drains.Drains.end.Goals as goal

pub loop-drain-init : goal.loop-drain-init
loop-drain-init g c = (λ all. (all.0, ([], refl, All-nil IsLeft, omega arith)), refl)

pub loop-drain-preserved : goal.loop-drain-preserved
loop-drain-preserved g c =
    let drain = c.in-Some.drain in
    let longer : length c.and-all.result.items ≡ length c.loop-drain.all.items + 1 =
    omega (arith, ap (λ (t : Trace Drained). length t.items) c.and-all.ensures) in
    let shorter : length c.loop-drain.left.items ≡ length c.pop.new.self.items + 1 =
    simp length-append at (ap length c.in-Some.ensures.items) in (
      λ all.
          let before = c.loop-drain.invariant.0 all in
          let left = before.1.0 in
          let popped = All-pop IsDrain c.loop-drain.left.items c.pop.new.self.items (Some drain)
          c.in-Some.ensures.items before.0 in (
            popped.0,
            (
              c.end.result ∷ left,
              ap (λ (t : Trace Drained). t.items) c.and-all.ensures ∙ ap (λ l. c.end.result ∷ l) before.1.1,
              All-cons IsLeft c.end.result left (c.end.ensures.left refl popped.1) before.1.2,
              omega (arith, shorter, before.1.3),
            ),
          ),
      omega (arith, longer, shorter, c.loop-drain.invariant.1),
    )

pub returns-clause-all : goal.returns-clause-all
returns-clause-all g c = λ all.
    let is = c.loop-drain.invariant.0 all in
    (is.1.0, is.1.1, is.1.2, omega (arith, is.1.3, c.in_default.ensures.cases.0))
