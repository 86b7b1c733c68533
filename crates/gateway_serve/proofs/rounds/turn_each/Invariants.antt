use Rattle.std.proofs.Common.{◌≡◌, ◌≤◌, ℕ, true, List, length, Result, Ok}
use Rattle.std.specs.declared.time.Duration.{Duration}
use Rattle.common.specs.declared.stop.DiskFault.{DiskFault}
use Rattle.gateway_serve.specs.Counted.{Adds}
use Rattle.gateway_serve.specs.Drains.{KeepsDrains}
use Rattle.gateway_serve.specs.Acceptors.{waits_in}
use Rattle.gateway_serve.specs.declared.doors.AtDoor.{AtDoor}
use Rattle.gateway_serve.specs.Gone.{IsAmong, IsTurn}
use Rattle.gateway_serve.specs.Joined.{StaysJoined}
use Rattle.gateway_serve.specs.Streams.{AllHad, AllHave, AllPreserve}
use Rattle.gateway_serve.specs.Reasons.{AllReasoned}
use Rattle.gateway_serve.proofs.rounds.turn_each.Given as goal

abbrev pub invariant-loop-conn : goal.invariant-loop-conn
invariant-loop-conn g l =
    let on : Result (Unit {0}) DiskFault = Ok tt in
    (g.C.Connections.failures l.gateway ≡ g.C.Connections.failures l.fn.gateway)
    × ((refused : ℕ) → StaysJoined g.C.Connections l.fn.gateway l.gateway on l.fn.places l.places l.fn.ended.items
    l.ended.items refused refused)
    × ((times : List Duration) → IsAmong l.fn.round.now times → AllPreserve g.S.Read.remaining g.S.Write.contents times
    l.fn.places l.places l.fn.ended.items l.ended.items)
    × ((times : List Duration) (done : List AtDoor) → IsTurn l.fn.round.now l.fn.round.wanted times (waits_in done)
    → AllHave g.S.Read.remaining g.S.Write.contents times l.fn.places
    → AllHad g.S.Read.remaining g.S.Write.contents times l.fn.ended.items → AllReasoned times done l.fn.ended.items
    → AllReasoned times done l.ended.items)
    × Adds l.fn.places l.places l.fn.ended.items l.ended.items
    × (l.round.connections ≡ l.fn.round.connections)
    × (l.round.now ≡ l.fn.round.now)
    × (l.fn.round.closed ≡ length l.fn.ended.items → length l.fn.ended.items ≤ l.fn.round.connections
    → (l.round.closed ≡ length l.ended.items) × (length l.ended.items ≤ l.fn.round.connections))
    × (l.round.wanted ≡ true → l.fn.round.wanted ≡ true)
    × KeepsDrains l.fn.drains l.drains l.fn.ended.items l.ended.items
