use Rattle.std.proofs.Common.{◌≡◌, ◌+◌, ◌∷◌, ◌∙◌, ap, inl, refl, sym, arith}
use Rattle.common.specs.declared.trace.Trace.{Trace}
use Rattle.std.specs.declared.time.Duration.{Duration}
use Rattle.std.proofs.lemmas.List.{with_items_is}
use Rattle.tus_session.proofs.Counting.{uncounted}
use Rattle.gateway_serve.specs.Joined.{ended_of, places_of}
use Rattle.gateway_serve.specs.Acceptors.{done_of, waits_in}
use Rattle.gateway_serve.specs.Turns.{door_of, refused_by, times_of}
use Rattle.gateway_serve.proofs.Lost.{all_in_time}
use Rattle.gateway_serve.proofs.Counted.{counted_by}
use Rattle.gateway_serve.proofs.Drainings.{drains_kept}
use Rattle.gateway_serve.proofs.Times.{streams_later}
use Rattle.gateway_serve.proofs.server.Server.turn.Goals as goal

pub returns-clause-streams : goal.returns-clause-streams
returns-clause-streams g c = λ has.
    let began : c.and-self.result.items ≡ c.args.self.now.watch.now ∷ times_of c.args.self.now =
    ap (λ (t : Trace Duration). t.items) c.and-self.ensures in
    let a = c.seat.ensures.streams (rw began (inl refl)) (rw began (streams_later g.S.Read.remaining g.S.Write.contents
    c.args.self.now.watch.now (times_of c.args.self.now) (places_of c.args.self.now) (ended_of c.args.self.now) has)) in
    let same = with_items_is c.seat.new.self.places c.turn_each-taken.new.places
    (omega (arith, c.turn_each-taken.auto.places, c.deref_mut.ensures.len)) in
    let b = c.turn_each-taken.ensures.streams (times_of c.seat.new.self)
    (rw (c.in_ok-seat.ensures.times ∙ began) (inl c.round-round.ensures.now)) (rw c.deref_mut.ensures.value a.0) a.1 in
    (rw same b.0, b.1)

pub returns-in_err-seat-clause-streams : goal.returns-in_err-seat-clause-streams
returns-in_err-seat-clause-streams g c = λ has.
    let began : c.and-self.result.items ≡ c.args.self.now.watch.now ∷ times_of c.args.self.now =
    ap (λ (t : Trace Duration). t.items) c.and-self.ensures in
    c.seat.ensures.streams (rw began (inl refl)) (rw began (streams_later g.S.Read.remaining g.S.Write.contents
    c.args.self.now.watch.now (times_of c.args.self.now) (places_of c.args.self.now) (ended_of c.args.self.now) has))

pub returns-clause-serves : goal.returns-clause-serves
returns-clause-serves g c = λ sure before st past went joins.
    let s = c.in_ok-seat.ensures.serves sure before st past went (rw c.ask.ensures.refused joins) in
    let same = with_items_is c.seat.new.self.places c.turn_each-taken.new.places
    (omega (arith, c.turn_each-taken.auto.places, c.deref_mut.ensures.len)) in
    rw same (c.turn_each-taken.ensures.serves (refused_by c.seat.new.self) sure before st s.0 s.1
    (rw c.deref_mut.ensures.value s.2))

pub returns-clause-clients : goal.returns-clause-clients
returns-clause-clients g c = λ before turns lets.
    c.seat.ensures.clients before (g.A.Acceptor.answers c.take_failure.new.self) (turns + 1)
    (rw c.take_failure.ensures (c.ask.ensures.clients before turns lets))

pub returns-in_err-seat-clause-clients : goal.returns-in_err-seat-clause-clients
returns-in_err-seat-clause-clients g c = λ before turns lets.
    c.seat.ensures.clients before (g.A.Acceptor.answers c.take_failure.new.self) (turns + 1)
    (rw c.take_failure.ensures (c.ask.ensures.clients before turns lets))

pub returns-clause-closed : goal.returns-clause-closed
returns-clause-closed g c same most =
    c.turn_each-taken.ensures.closed
    (rw (c.round-round.ensures.closed, c.in_ok-seat.ensures.closed, c.in_ok-seat.ensures.ended) same)
    (rw (c.round-round.ensures.connections, c.in_ok-seat.ensures.ended) most)

pub returns-clause-stops : goal.returns-clause-stops
returns-clause-stops g c same most =
    rw c.round-round.ensures.connections at (c.turn_each-taken.ensures.stops
    (rw (c.round-round.ensures.closed, c.in_ok-seat.ensures.closed, c.in_ok-seat.ensures.ended) same)
    (rw (c.round-round.ensures.connections, c.in_ok-seat.ensures.ended) most))

pub returns-clause-counted : goal.returns-clause-counted
returns-clause-counted g c counted =
    let same = with_items_is c.seat.new.self.places c.turn_each-taken.new.places
    (omega (arith, c.turn_each-taken.auto.places, c.deref_mut.ensures.len)) in
    rw same (counted_by _ _ _ _ _ (c.seat.ensures.counted (rw (c.ask.ensures.opened) counted))
    (rw c.deref_mut.ensures.value at c.turn_each-taken.ensures.kept))

pub returns-clause-reasons : goal.returns-clause-reasons
returns-clause-reasons g c = λ has all.
    let now = c.args.self.now.watch.now in
    let before = waits_in (done_of (door_of c.args.self.now)) in
    let began : c.and-self.result.items ≡ now ∷ times_of c.args.self.now =
    ap (λ (t : Trace Duration). t.items) c.and-self.ensures in
    let a = c.seat.ensures.streams (rw began (inl refl)) (rw began (streams_later g.S.Read.remaining g.S.Write.contents
    now (times_of c.args.self.now) (places_of c.args.self.now) (ended_of c.args.self.now) has)) in
    let turn = c.seat.ensures.turn before c.ask.ensures.turn in
    let longer = all_in_time now _ (times_of c.args.self.now) (done_of (door_of c.args.self.now))
    (done_of (door_of c.seat.new.self)) turn (ended_of c.args.self.now) all in
    c.turn_each-taken.ensures.reasons (times_of c.seat.new.self) (done_of (door_of c.seat.new.self))
    (rw (c.in_ok-seat.ensures.times ∙ began, turn) (inl (
      c.round-round.ensures.now,
      λ w. sym c.round-round.ensures.wanted ∙ w,
    )))
    (rw c.deref_mut.ensures.value a.0) a.1
    (rw (c.in_ok-seat.ensures.times ∙ began, c.in_ok-seat.ensures.ended) longer)

pub returns-clause-counts : goal.returns-clause-counts
returns-clause-counts g c =
    rw (uncounted (λ fails. absurd (cc)) c.in_ok-seat.ensures.counts) at c.turn_each-taken.ensures.counts

pub returns-in_err-seat-clause-reasons : goal.returns-in_err-seat-clause-reasons
returns-in_err-seat-clause-reasons g c = λ has all.
    let began : c.and-self.result.items ≡ c.args.self.now.watch.now ∷ times_of c.args.self.now =
    ap (λ (t : Trace Duration). t.items) c.and-self.ensures in
    let turn = c.seat.ensures.turn (waits_in (done_of (door_of c.args.self.now))) c.ask.ensures.turn in
    let longer = all_in_time c.args.self.now.watch.now _ (times_of c.args.self.now)
    (done_of (door_of c.args.self.now)) (done_of (door_of c.seat.new.self)) turn (ended_of c.args.self.now) all in
    rw (c.in_err-seat.ensures.times ∙ began, c.in_err-seat.ensures.ended) longer

pub returns-clause-drains : goal.returns-clause-drains
returns-clause-drains g c = λ has.
    let kept = drains_kept _ _ _ _ c.turn_each-taken.ensures.drains
    (rw (c.in_ok-seat.ensures.drains, c.in_ok-seat.ensures.ended)
    (c.make_room.ensures.all has.0, c.make_room.ensures.same ∙ has.1)) in
    (c.turn-flows.ensures.all kept.0, c.turn-flows.ensures.same ∙ kept.1)

pub returns-in_err-seat-clause-drains : goal.returns-in_err-seat-clause-drains
returns-in_err-seat-clause-drains g c = λ has.
    rw (c.in_err-seat.ensures.drains, c.in_err-seat.ensures.ended)
    (c.make_room.ensures.all has.0, c.make_room.ensures.same ∙ has.1)
