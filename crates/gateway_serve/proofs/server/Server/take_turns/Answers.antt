use Rattle.std.proofs.Common.{◌≡◌, ◌+◌, ◌-◌, ◌∙◌, refl, sym, ap, inl, inr, is_some, length, arith}
use Rattle.std.proofs.lemmas.List.{with_items_is}
use Rattle.gateway_serve.specs.Joined.{places_of, ended_of}
use Rattle.tus_session.proofs.Counting.{uncounted}
use Rattle.gateway_serve.proofs.NextTurn.{counts_on, next_turn, taken_so}
use Rattle.gateway_serve.proofs.Counted.{count_most, counted_by, none_counted}
use Rattle.gateway_serve.proofs.Drainings.{drains_kept}
use Rattle.gateway_serve.proofs.Lost.{all_closed, none_more}
use Rattle.gateway_serve.specs.Rests.{read_or}
use Rattle.gateway_serve.specs.declared.idle.Watch.{Watch}
use Rattle.gateway_serve.proofs.Times.{none_streamed, shown_all, shows_last, shows_on}
use Rattle.gateway_serve.specs.Acceptors.{done_of, passes_of}
use Rattle.gateway_serve.specs.Turns.{door_of, refused_by, times_of}
use Rattle.gateway_serve.proofs.server.Server.take_turns.Goals.{then-loop-left-test+else-self-connections}
use Rattle.gateway_serve.proofs.server.Server.take_turns.Goals.{else-loop-left-test}
use Rattle.gateway_serve.proofs.server.Server.take_turns.Goals as goal

pub loop-left-preserved : goal.loop-left-preserved
loop-left-preserved g c = (
  uncounted (λ fails. absurd (cc)) c.in_ok-turn.ensures.counts ∙ c.loop-left.invariant.0,
  λ sure before st past went joins.
      let s = c.loop-left.invariant.1 sure before st past went joins in
      c.in_ok-turn.ensures.serves sure before st s.0 s.1 s.2,
  c.in_ok-turn.ensures.streams c.loop-left.invariant.2,
  c.in_ok-turn.ensures.reasons c.loop-left.invariant.2 c.loop-left.invariant.3,
  omega (arith, c.loop-left.invariant.4),
  next_turn c.loop-left.left c.args.turns (g.A.Acceptor.answers c.args.acceptor.now)
      (g.A.Acceptor.answers c.turn.new.acceptor) (door_of c.turn.new.self) (omega (arith, c.loop-left-test.true))
      c.loop-left.invariant.4
      (c.in_ok-turn.ensures.clients (g.A.Acceptor.answers c.args.acceptor.now) (c.args.turns - c.loop-left.left)
      c.loop-left.invariant.5),
  c.in_ok-turn.ensures.closed c.loop-left.invariant.6 c.loop-left.invariant.7,
  c.in_ok-turn.ensures.stops c.loop-left.invariant.6 c.loop-left.invariant.7,
  c.in_ok-turn.ensures.counted c.loop-left.invariant.8,
  λ before shows.
      let s = c.loop-left.invariant.9 before shows in
      shows_on before (g.T.Timer.shown c.loop-left.clock) c.loop-left.self.watch.now (times_of c.loop-left.self)
      (times_of c.turn.new.self) s c.turn.ensures.times (g.T.Timer.shown c.show.new.self) c.show.result
      c.rest.new.self.now c.show.ensures
      (ap (λ (w : Watch). w.now) c.rest.ensures.time ∙ ap (λ (w : Watch). read_or c.show.result w.now)
      c.turn.ensures.watch),
  omega (
    arith,
    ap length c.turn.ensures.times,
    c.loop-left.invariant.10,
    c.loop-left-test.true,
    c.loop-left.invariant.4,
  ),
  c.in_ok-turn.ensures.drains c.loop-left.invariant.11,
)

pub returns-clause-counted : goal.returns-clause-counted
returns-clause-counted g c =
    let same = with_items_is c.loop-left.self.places c.end_each.new.places
    (omega (arith, c.end_each.auto.places, c.deref_mut.ensures.len)) in
    rw same (counted_by _ _ _ _ _ c.loop-left.invariant.8 (rw c.deref_mut.ensures.value at c.end_each.ensures.kept))

pub returns-clause-none : goal.returns-clause-none
returns-clause-none g c =
    let same = with_items_is c.loop-left.self.places c.end_each.new.places
    (omega (arith, c.end_each.auto.places, c.deref_mut.ensures.len)) in
    rw same c.end_each.ensures.none

pub returns-clause-stops : goal.returns-clause-stops
returns-clause-stops g c =
    omega (arith, c.end_each.ensures.before, count_most (ended_of c.loop-left.self), c.loop-left.invariant.7)

pub returns-in_err-turn-clause-counted : goal.returns-in_err-turn-clause-counted
returns-in_err-turn-clause-counted g c = c.turn.ensures.counted c.loop-left.invariant.8

pub returns-in_err-turn-clause-stops : goal.returns-in_err-turn-clause-stops
returns-in_err-turn-clause-stops g c =
    let most = c.turn.ensures.stops c.loop-left.invariant.6 c.loop-left.invariant.7 in
    omega (arith, count_most (ended_of c.turn.new.self), most)

pub returns-clause-streams : goal.returns-clause-streams
returns-clause-streams g c =
    let same = with_items_is c.loop-left.self.places c.end_each.new.places
    (omega (arith, c.end_each.auto.places, c.deref_mut.ensures.len)) in
    let b = c.end_each.ensures.streams (times_of c.loop-left.self)
    (rw c.deref_mut.ensures.value c.loop-left.invariant.2.0) c.loop-left.invariant.2.1 in
    (rw same b.0, b.1)

pub returns-clause-serves : goal.returns-clause-serves
returns-clause-serves g c = λ sure before st past went joins.
    let s = c.loop-left.invariant.1 sure before st past went joins in
    let same = with_items_is c.loop-left.self.places c.end_each.new.places
    (omega (arith, c.end_each.auto.places, c.deref_mut.ensures.len)) in
    rw same (c.end_each.ensures.serves (refused_by c.loop-left.self) sure before st s.0 s.1
    (rw c.deref_mut.ensures.value s.2))

pub returns-clause-reasons : goal.returns-clause-reasons
returns-clause-reasons g c = (
  ended_of c.loop-left.self,
  c.loop-left.invariant.3,
  c.end_each.ensures.once,
)

pub returns-in_err-turn-clause-reasons : goal.returns-in_err-turn-clause-reasons
returns-in_err-turn-clause-reasons g c = (
  ended_of c.turn.new.self,
  c.turn.ensures.reasons c.loop-left.invariant.2 c.loop-left.invariant.3,
  none_more (ended_of c.turn.new.self),
)

pub returns-in_err-turn-clause-clients : goal.returns-in_err-turn-clause-clients
returns-in_err-turn-clause-clients g c = record {
  taken = c.args.turns - c.loop-left.left + 1;
  waits = is_some (door_of c.turn.new.self).waiting;
  lets = taken_so (g.A.Acceptor.answers c.args.acceptor.now) (g.A.Acceptor.answers c.turn.new.acceptor)
      (c.args.turns - c.loop-left.left + 1) (done_of (door_of c.turn.new.self)) (door_of c.turn.new.self).clients
      (is_some (door_of c.turn.new.self).waiting) (passes_of (door_of c.turn.new.self).pace)
      (c.in_err-turn.ensures.clients (g.A.Acceptor.answers c.args.acceptor.now)
      (c.args.turns - c.loop-left.left) c.loop-left.invariant.5);
  all = inl c.from_residual.ensures.0;
}

pub returns-clause-clients : goal.returns-clause-clients
returns-clause-clients g c = record {
  taken = c.args.turns - c.loop-left.left;
  waits = is_some (door_of c.loop-left.self).waiting;
  lets = taken_so (g.A.Acceptor.answers c.args.acceptor.now) (g.A.Acceptor.answers c.loop-left.acceptor)
      (c.args.turns - c.loop-left.left) (done_of (door_of c.loop-left.self)) (door_of c.loop-left.self).clients
      (is_some (door_of c.loop-left.self).waiting) (passes_of (door_of c.loop-left.self).pace)
      c.loop-left.invariant.5;
  all = elim c.loop-left-test.branch [
    | then-loop-left-test+else-self-connections w ↦ inr (inl (omega (
      arith,
      w.if-self-connections,
      c.loop-left.invariant.6,
      all_closed (times_of c.loop-left.self) (done_of (door_of c.loop-left.self)) (ended_of c.loop-left.self)
          c.loop-left.invariant.3,
      c.end_each.ensures.before,
    )))
    | else-loop-left-test w ↦ inr (inr (omega (arith, w.loop-left-test, c.loop-left.invariant.4)))
  ];
}

pub turn-requires-clause-room : goal.turn-requires-clause-room
turn-requires-clause-room g c =
    (counts_on (g.A.Acceptor.answers c.args.acceptor.now) (g.A.Acceptor.answers c.loop-left.acceptor) c.args.turns
    c.loop-left.left (done_of c.loop-left.self.door) c.loop-left.self.door.clients
    (is_some c.loop-left.self.door.waiting) (passes_of c.loop-left.self.door.pace) c.loop-left.invariant.5
    (omega (arith, c.loop-left-test.true))
    c.loop-left.invariant.4 (omega (arith, c.ranges.turns.fits))).0

pub loop-left-init : goal.loop-left-init
loop-left-init g c =
    let none : c.args.turns - c.args.turns ≡ 0 = omega arith in
    let no_ended : length (ended_of c.args.self.now) ≡ 0 = ap length c.requires.2 in (
      refl,
      λ sure before st past went joins. (past, went, joins),
      none_streamed g.S.Read.remaining g.S.Write.contents (times_of c.args.self.now) (places_of c.args.self.now)
          (ended_of c.args.self.now) c.requires.3 c.requires.2,
      rw c.requires.2 tt,
      omega arith,
      rw none (c.requires.0 (g.A.Acceptor.answers c.args.acceptor.now)),
      c.requires.1 ∙ sym no_ended,
      omega (arith, no_ended),
      none_counted _ (ended_of c.args.self.now) (places_of c.args.self.now) c.requires.4 c.requires.2 c.requires.3,
      λ before shows. shows,
      omega (arith, ap length c.requires.5),
      c.requires.6,
    )

pub returns-clause-times : goal.returns-clause-times
returns-clause-times g c = λ before shows.
    let lets = c.loop-left.invariant.5 in
    shown_all before (g.T.Timer.shown c.loop-left.clock) c.loop-left.self.watch.now (times_of c.loop-left.self)
    (done_of (door_of c.loop-left.self)) (c.loop-left.invariant.9 before shows) (c.loop-left.invariant.10 ∙ sym lets.taken)

pub returns-in_err-turn-clause-times : goal.returns-in_err-turn-clause-times
returns-in_err-turn-clause-times g c = λ before shows.
    let lets = c.in_err-turn.ensures.clients (g.A.Acceptor.answers c.args.acceptor.now)
    (c.args.turns - c.loop-left.left) c.loop-left.invariant.5 in
    shows_last before (g.T.Timer.shown c.loop-left.clock) c.loop-left.self.watch.now (times_of c.loop-left.self)
    (times_of c.turn.new.self) (c.loop-left.invariant.9 before shows) c.turn.ensures.times
    (done_of (door_of c.turn.new.self))
    (omega (arith, ap length c.turn.ensures.times, c.loop-left.invariant.10, lets.taken))

pub returns-clause-drains : goal.returns-clause-drains
returns-clause-drains g c = drains_kept _ _ _ _ c.end_each.ensures.drains c.loop-left.invariant.11

pub returns-in_err-turn-clause-drains : goal.returns-in_err-turn-clause-drains
returns-in_err-turn-clause-drains g c = c.turn.ensures.drains c.loop-left.invariant.11
