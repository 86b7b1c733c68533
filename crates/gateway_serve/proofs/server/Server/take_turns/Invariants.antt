use Rattle.std.proofs.Common.{◌≡◌, ◌≤◌, ◌-◌, List, length, Option, Result, Ok}
use Rattle.std.specs.declared.time.Duration.{Duration}
use Rattle.common.specs.declared.stop.DiskFault.{DiskFault}
use Rattle.gateway_serve.specs.Acceptors.{LetsInBy}
use Rattle.gateway_serve.specs.Joined.{StaysJoined, places_of, ended_of}
use Rattle.gateway_serve.specs.Turns.{HasDrains, HasStreams, IsCounted, IsReasoned, ShowsBy}
use Rattle.gateway_serve.specs.Turns.{closed_of, door_of, refused_by, times_of}
use Rattle.gateway_serve.proofs.server.Server.take_turns.Given as goal

abbrev pub invariant-loop-left : goal.invariant-loop-left
invariant-loop-left g l =
    let on : Result (Unit {0}) DiskFault = Ok tt in
    (g.C.Connections.failures l.gateway ≡ g.C.Connections.failures l.fn.gateway)
    × StaysJoined g.C.Connections l.fn.gateway l.gateway on (places_of l.fn.self) (places_of l.self)
    (ended_of l.fn.self) (ended_of l.self) (refused_by l.fn.self) (refused_by l.self)
    × HasStreams g.S.Read.remaining g.S.Write.contents l.self
    × IsReasoned l.self
    × (l.left ≤ l.fn.turns)
    × LetsInBy (g.A.Acceptor.answers l.fn.acceptor) (g.A.Acceptor.answers l.acceptor) (l.fn.turns - l.left)
    (door_of l.self)
    × (closed_of l.self ≡ length (ended_of l.self))
    × (length (ended_of l.self) ≤ l.fn.connections)
    × IsCounted l.self
    × ((before : List (Option Duration)) → ShowsBy before (g.T.Timer.shown l.fn.clock) l.fn.self
    → ShowsBy before (g.T.Timer.shown l.clock) l.self)
    × (length (times_of l.self) ≡ l.fn.turns - l.left)
    × HasDrains l.self

abbrev pub decreases-loop-left : goal.decreases-loop-left
decreases-loop-left g l = l.left
