use Rattle.std.proofs.Common.{◌≡◌, ◌+◌, ◌++◌, List, length, vec_len}
use Rattle.std.specs.List.{All}
use Rattle.gateway_serve.specs.Drains.{AllDrain, IsDrain, IsLeft, count_drains, drained_of, draining_of}
use Rattle.gateway_serve.specs.declared.drains.Drained.{Drained}
use Rattle.gateway_serve.proofs.drains.Drains.end.Given as goal

abbrev pub invariant-loop-drain : goal.invariant-loop-drain
invariant-loop-drain g l =
    (AllDrain l.fn.self
    → All IsDrain l.left.items × ((left : List Drained) × (l.all.items ≡ left ++ drained_of l.fn.self)
    × All IsLeft left × (length left + length l.left.items ≡ length (draining_of l.fn.self))))
    × (length l.left.items + length l.all.items ≡ count_drains l.fn.self)

abbrev pub decreases-loop-drain : goal.decreases-loop-drain
decreases-loop-drain g l = vec_len l.left
