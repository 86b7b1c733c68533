-- What a failing write leaves that fills the first places of its range with a byte.
use Rattle.std.proofs.Common.{◌≡◌, ℕ, List, Some, Result, Ok, Err, IsOk, IsErr, length, min, take, replicate}
use Rattle.std.proofs.Common.{inl, inr, arith, ◌∙◌, ap, subst, refl}
use Rattle.std.proofs.lemmas.List.{take-replicate, length-replicate}
use Rattle.spool_disk.specs.Disk.{Counts, Writes}
use Rattle.spool_disk.specs.Hiccup.{Fills, Leaves, fill_of, within_of}
use Rattle.spool_disk.specs.declared.disk.Disk.{Ghosts}
use Rattle.spool_disk.specs.declared.hiccup.HiccupDisk.{HiccupDisk}

filler_is : (m n byte : ℕ) (filler : List ℕ) → m ≡ min n (length filler) → filler ≡ replicate 65536 byte
    → take m filler ≡ replicate (min n 65536) byte
filler_is m n byte filler e full =
    let long : length filler ≡ 65536 = ap length full ∙ length-replicate 65536 byte in
    ap (take m) full ∙ take-replicate m 65536 byte (omega (arith, e, long))
    ∙ ap (λ (k : ℕ). replicate k byte) (omega (arith, e, long))

fills_by : {D A B : Type 0} (disk : Ghosts D) (at n byte : ℕ) (old new : D) (r : Result A B)
    → Writes at (replicate (min n 65536) byte) (IsOk r) (disk.current old) (disk.current new) (disk.unsynced old)
    (disk.unsynced new)
    → Counts (IsErr r) (disk.failures old) (disk.failures new)
    → Fills disk at n byte old new
fills_by disk at n byte old new (Ok x) writes counts =
    inl record { outside = writes.outside; inside = λ _. writes.inside refl; unsyncs = writes.unsyncs }
fills_by disk at n byte old new (Err x) writes counts =
    inr (
      record { later = counts.later; counted = λ _. counts.counted refl; nothing_else = λ _. tt },
      record { outside = writes.outside; inside = λ no. absurd no; unsyncs = writes.unsyncs },
    )

pub filled : {D A B : Type 0} (disk : Ghosts D) (at m n byte : ℕ) (filler : List ℕ) (old new : D) (r : Result A B)
    → m ≡ min n (length filler) → filler ≡ replicate 65536 byte
    → Writes at (take m filler) (IsOk r) (disk.current old) (disk.current new) (disk.unsynced old)
    (disk.unsynced new)
    → Counts (IsErr r) (disk.failures old) (disk.failures new)
    → Fills disk at n byte old new
filled disk at m n byte filler old new r e full writes counts =
    let P : List ℕ → Type 0 = λ l. Writes at l (IsOk r) (disk.current old) (disk.current new) (disk.unsynced old)
    (disk.unsynced new) in
    fills_by disk at n byte old new r (subst P (filler_is m n byte filler e full) writes) counts

-- the inner disk that is asked is the old one
pub leaves_byte : {D : Type 0} (disk : Ghosts D) (at n byte : ℕ) (old new : HiccupDisk D) (asked : D)
    → fill_of old ≡ Some byte → asked ≡ within_of old
    → (disk.honest asked → Fills disk at n byte asked (within_of new)) → Leaves disk at n old new
leaves_byte {D = D} disk at n byte old new asked is same fills =
    let H : D → Type 0 = λ d. disk.honest d → Fills disk at n byte d (within_of new) in
    record {
      filled = λ other is' honest.
          let e : byte ≡ other = cc in
          subst (λ (b : ℕ). Fills disk at n b (within_of old) (within_of new)) e (subst H same fills honest);
      unfilled = λ none. absurd cc;
    }
