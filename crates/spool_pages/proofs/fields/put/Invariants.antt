use Rattle.std.proofs.Common.{◌≡◌, ◌+◌, ◌<◌, ℕ, get_or, length}
use Rattle.spool_disk.specs.Disk.{In}
use Rattle.spool_pages.proofs.fields.put.Given as goal

abbrev pub invariant-loop-i : goal.invariant-loop-i
invariant-loop-i l = record {
  outside : (p : ℕ) → (In l.at (length l.bytes) p → ⊥) → get_or l.page p 0 ≡ get_or l.fn.page p 0;
  inside : (k : ℕ) → k < l.i → get_or l.page (l.at + k) 0 ≡ get_or l.bytes k 0;
}
