use Rattle.std.proofs.Common.{◌≡◌, ◌<◌, ◌≤◌, ℕ, get_or, true, false}
use Rattle.spool_disk.specs.Crash.{left_by}
use Rattle.spool_disk.proofs.memory.tear.Given as goal

abbrev pub invariant-loop-i : goal.invariant-loop-i
invariant-loop-i l = record {
  kind : l.kind ≡ l.fn.kind;
  unchanged : (p : ℕ) → (get_or l.unsynced p false ≡ true → ⊥) → get_or l.written p 0 ≡ get_or l.fn.written p 0;
  left : (p : ℕ) → p < l.i → get_or l.unsynced p false ≡ true → get_or l.written p 0 ≡ left_by l.fn.kind
      (get_or l.synced p 0) (get_or l.fn.written p 0);
  rest : (p : ℕ) → l.i ≤ p → get_or l.written p 0 ≡ get_or l.fn.written p 0;
}
