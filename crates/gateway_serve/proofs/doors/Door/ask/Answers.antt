use Rattle.std.proofs.Common.{is_some, sym, ap, ◌∙◌, refl}
use Rattle.gateway_serve.specs.Acceptors.{done_of, passes_of}
use Rattle.gateway_serve.proofs.NextTurn.{asked_one, passed_one, waited_one}
use Rattle.gateway_serve.proofs.doors.Door.ask.Goals as goal

pub returns-then-is_some-clause-clients : goal.returns-then-is_some-clause-clients
returns-then-is_some-clause-clients g c = λ before turns lets.
    rw c.and-self.ensures (waited_one before (g.A.Acceptor.answers c.args.acceptor.now) turns (done_of c.args.self.now)
    c.args.self.now.clients (is_some c.args.self.now.waiting) (passes_of c.args.self.now.pace) lets _
    (sym c.is_some.ensures ∙ c.if-is_some.true) refl refl refl)

pub returns-in-Some-clause-clients : goal.returns-in-Some-clause-clients
returns-in-Some-clause-clients g c = λ before turns lets.
    rw (c.and-self-then-is_due.ensures, c.is_some-then-is_due-2.ensures) (asked_one before
    (g.A.Acceptor.answers c.args.acceptor.now) turns (done_of c.args.self.now) c.args.self.now.clients
    (is_some c.args.self.now.waiting) (passes_of c.args.self.now.pace) lets
    (g.A.Acceptor.answers c.accept-client.new.self) _ (is_some c.accept-client.result) (passes_of c.asked.new.self)
    c.accept-client.ensures (sym c.is_some.ensures ∙ c.if-is_some.false) (sym (ap is_some c.in-Some.is))
    c.asked.ensures.passes)

pub returns-in_default-clause-clients : goal.returns-in_default-clause-clients
returns-in_default-clause-clients g c = λ before turns lets.
    let none = sym c.is_some.ensures ∙ c.if-is_some.false in
    rw (c.and-self-then-is_due.ensures, c.is_some-then-is_due-2.ensures) (asked_one before
    (g.A.Acceptor.answers c.args.acceptor.now) turns (done_of c.args.self.now) c.args.self.now.clients
    (is_some c.args.self.now.waiting) (passes_of c.args.self.now.pace) lets
    (g.A.Acceptor.answers c.accept-client.new.self) (is_some c.args.self.now.waiting)
    (is_some c.accept-client.result) (passes_of c.asked.new.self) c.accept-client.ensures none
    (none ∙ sym (ap is_some c.in_default.is)) c.asked.ensures.passes)

pub returns-else-is_due-clause-clients : goal.returns-else-is_due-clause-clients
returns-else-is_due-clause-clients g c = λ before turns lets.
    rw c.and-self-else-is_due.ensures (passed_one before (g.A.Acceptor.answers c.args.acceptor.now) turns
    (done_of c.args.self.now) c.args.self.now.clients (is_some c.args.self.now.waiting)
    (passes_of c.args.self.now.pace) lets (passes_of c.is_due.new.self)
    (sym c.is_some.ensures ∙ c.if-is_some.false) (c.is_due.ensures.passed c.if-is_due.false))

pub returns-then-is_some-clause-turn : goal.returns-then-is_some-clause-turn
returns-then-is_some-clause-turn g c =
    rw (c.and-self.ensures, sym c.is_some.ensures ∙ c.if-is_some.true) refl

pub returns-in-Some-clause-turn : goal.returns-in-Some-clause-turn
returns-in-Some-clause-turn g c =
    rw (c.and-self-then-is_due.ensures, c.is_some-then-is_due-2.ensures, c.in-Some.is) refl

pub returns-in_default-clause-turn : goal.returns-in_default-clause-turn
returns-in_default-clause-turn g c =
    rw (
      c.and-self-then-is_due.ensures,
      c.is_some-then-is_due-2.ensures,
      c.in_default.is,
      sym c.is_some.ensures ∙ c.if-is_some.false,
    ) refl

pub returns-else-is_due-clause-turn : goal.returns-else-is_due-clause-turn
returns-else-is_due-clause-turn g c =
    rw (c.and-self-else-is_due.ensures, sym c.is_some.ensures ∙ c.if-is_some.false) refl
