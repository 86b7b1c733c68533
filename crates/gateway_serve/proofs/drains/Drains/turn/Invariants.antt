use Rattle.std.proofs.Common.{◌≡◌, ◌-◌, vec_len}
use Rattle.gateway_serve.specs.Drains.{AllDrain, count_drains}
use Rattle.gateway_serve.proofs.drains.Drains.turn.Given as goal

abbrev pub invariant-loop-next : goal.invariant-loop-next
invariant-loop-next g l =
    (AllDrain l.fn.self → AllDrain l.self) × (count_drains l.self ≡ count_drains l.fn.self)

abbrev pub decreases-loop-next : goal.decreases-loop-next
decreases-loop-next g l = vec_len l.self.sockets - l.next
