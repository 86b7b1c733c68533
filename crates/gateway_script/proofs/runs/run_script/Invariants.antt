use Rattle.std.proofs.Common.{◌≡◌, ℕ, Bool, Option, List, ◌+◌, ◌≤◌, length}
use Rattle.tus_session.specs.History.{State}
use Rattle.gateway_script.specs.Script.{Run, run_lines, script_lines}
use Rattle.gateway_script.specs.Runs.{view, IsRunAt, Reaches}
use Rattle.gateway_script.proofs.runs.run_script.Given as goal

abbrev pub invariant-loop-rest : goal.invariant-loop-rest
invariant-loop-rest g l =
    (l.start + length l.rest ≡ length l.script) × (l.number ≤ l.start + 1) × (g.C.Connections.failures
    l.core ≡ g.C.Connections.failures l.fn.core)
    × (g.W.CountedWrite.refusals l.writer ≡ g.W.CountedWrite.refusals l.fn.writer)
    × ((sure : Bool) (before : g.row.C.Denot) (st : State) (r : Run) (prefix : Option (List ℕ))
    → IsRunAt (view g.C.Connections sure before l.fn.core st (g.W.CountedWrite.contents l.fn.writer) prefix) r
    → (s : Run) × Reaches (run_lines 1 0 (script_lines l.script)) r (run_lines l.number l.start (script_lines l.rest)) s
    × IsRunAt (view g.C.Connections sure before l.core st (g.W.CountedWrite.contents l.writer) prefix) s)

abbrev pub decreases-loop-rest : goal.decreases-loop-rest
decreases-loop-rest g l = length l.rest
