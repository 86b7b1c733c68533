use Rattle.std.proofs.Common.{◌≡◌, Result, Ok}
use Rattle.common.specs.declared.stop.DiskFault.{DiskFault}
use Rattle.gateway_serve.specs.Joined.{Goes}
use Rattle.gateway_serve.specs.Streams.{socket_of}
use Rattle.gateway_serve.specs.Times.{StaysTimed}
use Rattle.gateway_serve.proofs.links.Link.give.Given as goal

abbrev pub invariant-loop-calls : goal.invariant-loop-calls
invariant-loop-calls g l =
    let on : Result (Unit {0}) DiskFault = Ok tt in
    (g.C.Connections.failures l.gateway ≡ g.C.Connections.failures l.fn.gateway)
    × Goes g.C.Connections l.fn.gateway l.gateway on l.fn.self l.self l.fn.conn
    × (socket_of l.self ≡ socket_of l.fn.self)
    × StaysTimed l.fn.tick.now l.fn.self l.self

abbrev pub decreases-loop-calls : goal.decreases-loop-calls
decreases-loop-calls g l = l.calls
