use Rattle.std.proofs.Common.{◌≡◌, ◌+◌, ◌-◌, drop, take, sym, ap, ◌∙◌, arith}
use Rattle.std.proofs.lemmas.List.{drop-drop, drop-take}
use Rattle.gateway_serve.proofs.buffers.Input.take.Goals as goal

pub returns-then-count-self : goal.returns-then-count-self
returns-then-count-self c =
    let i = c.self.inside in
    let n = c.args.count in
    let rest = i.end - (i.taken + n) in
    let all : i.end - i.taken ≡ n + rest = omega (arith, c.if-count-self.true) in
    sym (ap (drop n) (sym c.self.view_is)
    ∙ (ap (λ j. drop n (take j (drop i.taken i.bytes))) all
    ∙ (drop-take n rest (drop i.taken i.bytes) ∙ ap (take rest) (drop-drop n i.taken i.bytes))))
