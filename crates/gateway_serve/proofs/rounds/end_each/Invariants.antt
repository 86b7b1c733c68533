use Rattle.std.proofs.Common.{◌≡◌, ◌<◌, ◌≤◌, ℕ, List, get_or, length, Result, Ok}
use Rattle.std.specs.declared.time.Duration.{Duration}
use Rattle.common.specs.declared.stop.DiskFault.{DiskFault}
use Rattle.gateway_serve.specs.Counted.{Adds, count_closed}
use Rattle.gateway_serve.specs.Drains.{KeepsDrains}
use Rattle.gateway_serve.specs.Joined.{StaysJoined}
use Rattle.gateway_serve.specs.Streams.{AllPreserve}
use Rattle.gateway_serve.specs.Reasons.{EndedOnce}
use Rattle.gateway_serve.specs.declared.places.Place.TheVariants.{Free}
use Rattle.gateway_serve.proofs.rounds.end_each.Given as goal

abbrev pub invariant-loop-conn : goal.invariant-loop-conn
invariant-loop-conn g l =
    let on : Result (Unit {0}) DiskFault = Ok tt in
    (g.C.Connections.failures l.gateway ≡ g.C.Connections.failures l.fn.gateway)
    × ((refused : ℕ) → StaysJoined g.C.Connections l.fn.gateway l.gateway on l.fn.places l.places l.fn.ended.items
    l.ended.items refused refused)
    × ((times : List Duration) → AllPreserve g.S.Read.remaining g.S.Write.contents times l.fn.places l.places
    l.fn.ended.items l.ended.items)
    × ((k : ℕ) → k < l.conn → get_or l.places k Free ≡ Free)
    × EndedOnce l.fn.ended.items l.conn l.ended.items
    × (length l.fn.ended.items ≤ length l.ended.items)
    × Adds l.fn.places l.places l.fn.ended.items l.ended.items
    × (count_closed l.ended.items ≡ count_closed l.fn.ended.items)
    × KeepsDrains l.fn.drains l.drains l.fn.ended.items l.ended.items
