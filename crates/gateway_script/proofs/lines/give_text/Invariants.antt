use Rattle.std.proofs.Common.{◌≡◌, ℕ, Bool, Option, List}
use Rattle.tus_session.specs.History.{State}
use Rattle.gateway_script.specs.Script.{Run, mores, most_calls}
use Rattle.gateway_script.specs.Runs.{view, IsRunAt, Reaches}
use Rattle.gateway_script.proofs.lines.give_text.Given as goal

abbrev pub invariant-loop-left : goal.invariant-loop-left
invariant-loop-left g l =
    (g.C.Connections.failures l.core ≡ g.C.Connections.failures l.fn.core)
    × (g.W.CountedWrite.refusals l.writer ≡ g.W.CountedWrite.refusals l.fn.writer)
    × ((sure : Bool) (before : g.row.C.Denot) (st : State) (r : Run) (prefix : Option (List ℕ))
    → IsRunAt (view g.C.Connections sure before l.fn.core st (g.W.CountedWrite.contents l.fn.writer) prefix) r
    → (s : Run) × Reaches (mores most_calls l.conn) r (mores l.left l.conn) s
    × IsRunAt (view g.C.Connections sure before l.core st (g.W.CountedWrite.contents l.writer) prefix) s)

abbrev pub decreases-loop-left : goal.decreases-loop-left
decreases-loop-left g l = l.left
