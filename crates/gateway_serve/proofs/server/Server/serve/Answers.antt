use Rattle.std.proofs.Common.{List, ◌∷◌, inl, refl, arith}
use Rattle.tus_session.specs.History.{Marked, Failed}
use Rattle.gateway_serve.specs.Joined.{ended_of}
use Rattle.gateway_serve.specs.Turns.{refused_by, times_of}
use Rattle.gateway_serve.proofs.Lost.{none_more}
use Rattle.gateway_serve.proofs.server.Server.serve.Goals as goal

pub returns-in-Ok-clause-reasons : goal.returns-in-Ok-clause-reasons
returns-in-Ok-clause-reasons g c = (
  ended_of c.take_turns.new.self,
  c.take_turns.ensures.reasons,
  none_more (ended_of c.take_turns.new.self),
)

pub returns-in-Err-clause-reasons : goal.returns-in-Err-clause-reasons
returns-in-Err-clause-reasons g c = (
  ended_of c.take_turns.new.self,
  c.take_turns.ensures.reasons,
  c.free_each.ensures.once,
)

pub returns-in-Err-clause-streams : goal.returns-in-Err-clause-streams
returns-in-Err-clause-streams g c =
    let has = c.take_turns.ensures.streams in
    (c.free_each.ensures.streams (times_of c.take_turns.new.self) (rw c.deref_mut.ensures.value has.0) has.1).1

pub returns-in-Err-clause-serves : goal.returns-in-Err-clause-serves
returns-in-Err-clause-serves g c = λ sure before st past went joins.
    let s = c.in-Err.ensures.serves sure before st past went joins in
    let now : List Marked = (s.1, Failed) ∷ s.0 in (
      s.0,
      s.1,
      s.2,
      c.free_each.ensures.left sure (refused_by c.take_turns.new.self) st now (rw c.deref_mut.ensures.value s.3),
    )

pub returns-in-Ok-clause-clients : goal.returns-in-Ok-clause-clients
returns-in-Ok-clause-clients g c = record {
  served = c.in-Ok.ensures.clients;
  opened = omega (arith, c.take_turns.ensures.counted, c.in-Ok.ensures.none);
  stops = c.take_turns.ensures.stops;
}

pub returns-in-Err-clause-clients : goal.returns-in-Err-clause-clients
returns-in-Err-clause-clients g c =
    let t = c.in-Err.ensures.clients in
    let kept = rw c.deref_mut.ensures.value at c.free_each.ensures.kept in record {
      served = record { taken = t.taken; waits = t.waits; lets = t.lets; all = inl refl };
      opened = omega (arith, c.take_turns.ensures.counted, kept);
      stops = omega (arith, c.take_turns.ensures.stops, c.free_each.ensures.before);
    }
