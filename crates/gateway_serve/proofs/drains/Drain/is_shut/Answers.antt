use Rattle.std.proofs.Common.{false, true, rules}
use Rattle.std.specs.Prelude.{IsNone}
use Rattle.gateway_serve.proofs.Drainings.{shut_done, shut_fails}
use Rattle.gateway_serve.proofs.drains.Drain.is_shut.Goals as goal

pub returns-then-not-shut : goal.returns-then-not-shut
returns-then-not-shut g c = λ is.
    let none : IsNone c.args.self.now.shut = search rules in
    shut_fails c.args.self.now.shut c.args.self.now.moved c.args.now c.args.self.now.dropped _ _ c.shut.result none
    c.shut.ensures (search rules) is

pub returns : goal.returns
returns g c = λ is.
    let none : IsNone c.args.self.now.shut = search rules in
    shut_done c.args.self.now.shut c.args.self.now.moved c.args.now c.args.self.now.dropped _ _ c.shut.result none
    c.shut.ensures (search rules) is
