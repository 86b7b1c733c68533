use Rattle.std.proofs.Common.{Ok, Err, ◌∙◌, ap, sym, arith, get_or, length}
use Rattle.std.proofs.lemmas.List.{get_or_default, set-get_or}
use Rattle.tus_session.proofs.Counting.{uncounted}
use Rattle.gateway_serve.specs.declared.places.Place.TheVariants.{Free}
use Rattle.gateway_serve.specs.declared.places.Turned.{Turned}
use Rattle.gateway_serve.proofs.All.{among_all}
use Rattle.gateway_serve.proofs.Carries.{among_preserve}
use Rattle.gateway_serve.proofs.Counted.{adds_on, closes, still_most, uncounts}
use Rattle.gateway_serve.proofs.Drainings.{drains_then}
use Rattle.gateway_serve.specs.Acceptors.{waits_in}
use Rattle.gateway_serve.proofs.Times.{still_turn, turn_among}
use Rattle.gateway_serve.proofs.rounds.turn_each.Goals as goal

pub returns-then-round-clause-serves : goal.returns-then-round-clause-serves
returns-then-round-clause-serves g c = λ refused sure before st past went joins.
    let s = c.loop-conn.invariant.1 refused sure before st past went joins in (
      s.0,
      s.1,
      rw (set-get_or c.loop-conn.places c.loop-conn.conn c.index-places-conn.result) s.2,
    )

pub returns-then-round-clause-streams : goal.returns-then-round-clause-streams
returns-then-round-clause-streams g c = λ times among have had.
    let s = c.loop-conn.invariant.2 times among have had in (
      rw (set-get_or c.loop-conn.places c.loop-conn.conn c.index-places-conn.result) s.0,
      s.1,
    )

pub returns-in-Err-clause-serves : goal.returns-in-Err-clause-serves
returns-in-Err-clause-serves g c = λ refused.
    among_all {T = Turned} g.C.Connections _ c.loop-conn.gateway c.turn.new.gateway (Err c.in-Err.fault) _
    c.loop-conn.places c.loop-conn.conn c.index-places-conn.result c.turn.new.self _ c.loop-conn.ended.items
    c.turn.new.ended.items refused refused (c.loop-conn.invariant.1 refused) c.in-Err.ensures.serves
    c.turn.ensures.others
    (omega (arith, c.loop-conn-test.true, c.loop-conn.auto.places))

pub returns-in-Err-clause-streams : goal.returns-in-Err-clause-streams
returns-in-Err-clause-streams g c = λ times among.
    among_preserve g.S.Read.remaining g.S.Write.contents times _ c.loop-conn.places c.loop-conn.conn
    c.index-places-conn.result c.turn.new.self _ c.loop-conn.ended.items c.turn.new.ended.items
    (c.loop-conn.invariant.2 times among) (omega (arith, c.loop-conn-test.true, c.loop-conn.auto.places))
    (c.turn.ensures.streams times (rw (c.tick.ensures.now ∙ c.loop-conn.invariant.6) among))

pub returns-in-Err-clause-reasons : goal.returns-in-Err-clause-reasons
returns-in-Err-clause-reasons g c = λ times done turn have had all.
    let among = turn_among c.args.round.now.now c.args.round.now.wanted times (waits_in done) turn in
    c.turn.ensures.reasons times done (rw (c.tick.ensures.now ∙ c.loop-conn.invariant.6, c.tick.ensures.wanted)
    (still_turn c.args.round.now.now c.args.round.now.wanted c.loop-conn.round.wanted times (waits_in done)
    c.loop-conn.invariant.8 turn))
    (rw (get_or_default c.loop-conn.places c.loop-conn.conn Free c.index-places-conn.result
    (omega (arith, c.loop-conn-test.true, c.loop-conn.auto.places)))
    at ((c.loop-conn.invariant.2 times among have had).0 c.loop-conn.conn))
    (c.loop-conn.invariant.3 times done turn have had all)

pub loop-conn-preserved : goal.loop-conn-preserved
loop-conn-preserved g c = (
  uncounted (λ fails. absurd (cc)) c.in-Ok.ensures.counts ∙ c.loop-conn.invariant.0,
  λ refused. among_all {T = Turned} g.C.Connections _ c.loop-conn.gateway c.turn.new.gateway (Ok c.in-Ok.turned) _
      c.loop-conn.places c.loop-conn.conn c.index-places-conn.result c.turn.new.self _ c.loop-conn.ended.items
      c.turn.new.ended.items refused refused (c.loop-conn.invariant.1 refused) c.in-Ok.ensures.serves
      c.turn.ensures.others
      (omega (arith, c.loop-conn-test.true, c.loop-conn.auto.places)),
  λ times among. among_preserve g.S.Read.remaining g.S.Write.contents times _ c.loop-conn.places c.loop-conn.conn
      c.index-places-conn.result c.turn.new.self _ c.loop-conn.ended.items c.turn.new.ended.items
      (c.loop-conn.invariant.2 times among) (omega (arith, c.loop-conn-test.true, c.loop-conn.auto.places))
      (c.turn.ensures.streams times (rw (c.tick.ensures.now ∙ c.loop-conn.invariant.6) among)),
  λ times done turn have had all.
      let among = turn_among c.args.round.now.now c.args.round.now.wanted times (waits_in done) turn in
      c.turn.ensures.reasons times done (rw (c.tick.ensures.now ∙ c.loop-conn.invariant.6, c.tick.ensures.wanted)
      (still_turn c.args.round.now.now c.args.round.now.wanted c.loop-conn.round.wanted times (waits_in done)
      c.loop-conn.invariant.8 turn))
      (rw (get_or_default c.loop-conn.places c.loop-conn.conn Free c.index-places-conn.result
      (omega (arith, c.loop-conn-test.true, c.loop-conn.auto.places)))
      at ((c.loop-conn.invariant.2 times among have had).0 c.loop-conn.conn))
      (c.loop-conn.invariant.3 times done turn have had all),
  adds_on _ c.loop-conn.places c.loop-conn.conn c.index-places-conn.result c.turn.new.self _ c.loop-conn.ended.items
      c.turn.new.ended.items (omega (arith, c.loop-conn-test.true, c.loop-conn.auto.places)) c.loop-conn.invariant.4
      c.turn.ensures.kept,
  c.add.ensures.connections ∙ c.loop-conn.invariant.5,
  c.add.ensures.now ∙ c.loop-conn.invariant.6,
  λ same most.
      let now = c.loop-conn.invariant.7 same most in
      closes c.in-Ok.turned c.loop-conn.round.closed c.add.new.self.closed (length c.loop-conn.ended.items)
      (length c.turn.new.ended.items) c.args.round.now.connections
      (λ e. c.if-round.false (e ∙ sym c.loop-conn.invariant.5)) now.0 now.1
      (λ e. c.in-Ok.ensures.closed (ap Ok e)) c.in-Ok.ensures.open
      (λ e less. c.add.ensures.closed e (rw c.loop-conn.invariant.5 less)) c.add.ensures.open,
  λ wanted. c.loop-conn.invariant.8 (c.add.ensures.wanted.0 wanted).0,
  drains_then _ _ _ _ _ _ c.loop-conn.invariant.9 c.turn.ensures.drains,
)

pub returns-in-Err-clause-drains : goal.returns-in-Err-clause-drains
returns-in-Err-clause-drains g c = drains_then _ _ _ _ _ _ c.loop-conn.invariant.9 c.turn.ensures.drains

pub returns-then-round-clause-kept : goal.returns-then-round-clause-kept
returns-then-round-clause-kept g c =
    rw (set-get_or c.loop-conn.places c.loop-conn.conn c.index-places-conn.result) c.loop-conn.invariant.4

pub returns-in-Err-clause-kept : goal.returns-in-Err-clause-kept
returns-in-Err-clause-kept g c =
    adds_on _ c.loop-conn.places c.loop-conn.conn c.index-places-conn.result c.turn.new.self _ c.loop-conn.ended.items
    c.turn.new.ended.items (omega (arith, c.loop-conn-test.true, c.loop-conn.auto.places)) c.loop-conn.invariant.4
    c.turn.ensures.kept

pub returns-in-Err-clause-stops : goal.returns-in-Err-clause-stops
returns-in-Err-clause-stops g c = λ same most.
    let now = c.loop-conn.invariant.7 same most in
    still_most (get_or c.loop-conn.places c.loop-conn.conn c.index-places-conn.result) c.turn.new.self
    c.loop-conn.round.closed (length c.loop-conn.ended.items) (length c.turn.new.ended.items)
    c.args.round.now.connections (λ e. c.if-round.false (e ∙ sym c.loop-conn.invariant.5)) now.0 now.1
    c.turn.ensures.kept

pub returns-then-round-clause-counts : goal.returns-then-round-clause-counts
returns-then-round-clause-counts g c = uncounts _ _ c.loop-conn.invariant.0

pub returns-clause-counts : goal.returns-clause-counts
returns-clause-counts g c = uncounts _ _ c.loop-conn.invariant.0

pub returns-then-round-clause-closed : goal.returns-then-round-clause-closed
returns-then-round-clause-closed g c = λ same most. (c.loop-conn.invariant.7 same most).0

pub returns-clause-closed : goal.returns-clause-closed
returns-clause-closed g c = λ same most. (c.loop-conn.invariant.7 same most).0

pub returns-then-round-clause-stops : goal.returns-then-round-clause-stops
returns-then-round-clause-stops g c = λ same most. (c.loop-conn.invariant.7 same most).1

pub returns-clause-stops : goal.returns-clause-stops
returns-clause-stops g c = λ same most. (c.loop-conn.invariant.7 same most).1
