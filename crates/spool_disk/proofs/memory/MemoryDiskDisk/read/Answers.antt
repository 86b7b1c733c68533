use Rattle.std.proofs.Common.{◌≡◌, ℕ, ◌+◌, ◌<◌, List, length, get_or, take, drop, arith, sym, ◌∙◌, ap, subst}
use Rattle.std.proofs.lemmas.List.{get_or-drop, get_or-take}
use Rattle.spool_disk.specs.Disk.{span}
use Rattle.spool_disk.specs.Memory.{memory_bytes}
use Rattle.spool_disk.proofs.Span.{span_is}
use Rattle.spool_disk.proofs.memory.MemoryDiskDisk.read.Goals as goal

by_index : (xs ys all : List ℕ) (at n k : ℕ) → xs ≡ take n (drop at ys) → ys ≡ all → k < n
    → get_or all (at + k) 0 ≡ get_or xs k 0
by_index xs ys all at n k e same lt =
    ap (λ (l : List ℕ). get_or l (at + k) 0) (sym same) ∙ sym (get_or-drop at ys k 0)
    ∙ sym (get_or-take n (drop at ys) k 0 lt) ∙ ap (λ (l : List ℕ). get_or l k 0) (sym e)

pub returns-clause-bytes : goal.returns-clause-bytes
returns-clause-bytes c _ _ =
    let long : length c.copy_from_slice.new.self ≡ length c.args.buf.now = c.copy_from_slice.ensures.len in
    subst (λ (n : ℕ). c.copy_from_slice.new.self ≡ span (memory_bytes c.args.self.now) c.args.at n) long
    (sym (span_is (memory_bytes c.args.self.now) c.args.at c.copy_from_slice.new.self
    (λ k lt. by_index _ _ _ c.args.at _ k c.copy_from_slice.ensures.after c.deref.ensures.value (omega arith))))
