-- What stays known over the calls of a disk.
use Rattle.std.proofs.Common.{◌≡◌, ℕ, List, length, inl, inr, refl, ◌∙◌, arith, ⊎_elim, Result, Ok, Err, IsOk, IsErr}
use Rattle.std.proofs.Common.{OnOk, subst, sym, ◌↔◌}
use Rattle.std.proofs.lemmas.Bool.{cases_lt}
use Rattle.spool_disk.specs.Disk.{span, In, IsImage, Elapses, Writes, Syncs, Preserves, Firm, Apart, Reads, Counts}
use Rattle.spool_disk.specs.Views.{Lasts}
use Rattle.spool_disk.specs.declared.disk.Disk.{Ghosts}
use Rattle.spool_disk.proofs.Span.{span_same}

pub apart_at : (at n at' n' p : ℕ) → Apart at n at' n' → In at n p → In at' n' p → ⊥
apart_at at n at' n' p (inl before) here there = omega (arith, here.below, there.from)
apart_at at n at' n' p (inr after) here there = omega (arith, here.from, there.below)

-- what was written is there once it is synced
pub written_synced : {current mid current' : ℕ → ℕ} {unsynced between unsynced' : ℕ → Type 0} {at : ℕ} {bytes : List ℕ}
    {wrote synced : Type 0} → Writes at bytes wrote current mid unsynced between
    → Syncs synced mid current' between unsynced'
    → wrote → synced → Firm current' unsynced' at bytes
written_synced {mid = mid} {current' = current'} {at = at} {bytes = bytes} writes syncs wrote synced = record {
  reads = span_same current' mid at (length bytes) (λ p here. syncs.same synced p) ∙ writes.inside wrote;
  is_synced = λ p here. syncs.is_synced synced p;
}

pub synced_image : {current image : ℕ → ℕ} {unsynced : ℕ → Type 0} {at : ℕ} {xs : List ℕ} → Firm current unsynced at xs
    → IsImage current unsynced image → span image at (length xs) ≡ xs
synced_image {current = current} {image = image} {at = at} {xs = xs} has is =
    span_same image current at (length xs) (λ p here. is.same p (has.is_synced p here)) ∙ has.reads

module _ {D : Type 0} {disk : Ghosts D} where
  pub lasts_call : {old new : D} {P : (ℕ → ℕ) → Type 0} → Elapses (disk.moment old) (disk.moment new)
      (disk.left_since old) (disk.left_since new) (disk.current new) (disk.unsynced new)
      → ((image : ℕ → ℕ) → IsImage (disk.current new) (disk.unsynced new) image → P image) → Lasts disk old new P
  lasts_call elapses here = record {
    later = elapses.later;
    nothing_else = λ t image le left. ⊎_elim inl (λ now. inr (here image now)) (elapses.nothing_else t image le left);
  }

  pub lasts_on : {old mid new : D} {P : (ℕ → ℕ) → Type 0} → Lasts disk old mid P → Lasts disk mid new P
      → Lasts disk old new P
  lasts_on {old = old} a b = record {
    later = omega (arith, a.later, b.later);
    nothing_else = λ t image le left. ⊎_elim (a.nothing_else t image le) inr
        (b.nothing_else t image (omega (arith, le, a.later)) left);
  }

  pub lasts_more : {old new : D} {P Q : (ℕ → ℕ) → Type 0} → Lasts disk old new P → ((image : ℕ → ℕ) → P image → Q image)
      → Lasts disk old new Q
  lasts_more a more = record {
    later = a.later;
    nothing_else = λ t image le left. ⊎_elim inl (λ now. inr (more image now)) (a.nothing_else t image le left);
  }

-- none of the calls between the two failed
pub record NoneFailed {D : Type 0} (disk : Ghosts D) (old new : D) : Type 0 where
  pub size : disk.size new ≡ disk.size old
  pub honest : disk.honest old → disk.honest new
  pub back : disk.honest new → disk.honest old
  pub failures : disk.failures new ≡ disk.failures old

pub no_calls : {D : Type 0} {disk : Ghosts D} {d : D} → NoneFailed disk d d
no_calls = record { size = refl; honest = λ h. h; back = λ h. h; failures = refl }

pub one_call : {D : Type 0} {disk : Ghosts D} {old mid new : D} → NoneFailed disk old mid
    → disk.size new ≡ disk.size mid → (disk.honest mid ↔ disk.honest new)
    → disk.failures new ≡ disk.failures mid → NoneFailed disk old new
one_call calls size honest failures = record {
  size = size ∙ calls.size;
  honest = λ h. honest.0 (calls.honest h);
  back = λ h. calls.back (honest.1 h);
  failures = failures ∙ calls.failures;
}

pub on_ok : {T E X : Type 0} (r : Result T E) → (IsOk r → X) → OnOk r X
on_ok (Ok t) h = h refl
on_ok (Err e) h = tt

pub on_more : {T E X Y : Type 0} (r : Result T E) → OnOk r X → (X → Y) → OnOk r Y
on_more (Ok t) x more = more x
on_more (Err e) x more = tt

-- a call that did not fail, and then another
pub counts_on : {F G : Type 0} {a b c : ℕ} → Counts F a b → (F → ⊥) → Counts G b c → Counts G a c
counts_on {G = G} {a = a} {b = b} {c = c} first not second =
    let e : b ≡ a = elim (cases_lt a b)
    [ inl lt ↦ absurd (not (first.nothing_else lt)) | inr le ↦ omega (arith, first.later) ] in
    subst (λ (n : ℕ). Counts G n c) e second

pub not_err : {T E : Type 0} (t : T) (r : Result T E) → r ≡ Ok t → IsErr r → ⊥
not_err {T = T} {E = E} t r e h = let f : IsErr {T = T} {E = E} (Ok t) = subst (IsErr {T = T} {E = E}) e h in cc

-- the failure count of one failure is that of another
pub counts_as : {F G : Type 0} {a b : ℕ} → Counts F a b → F → G → Counts G a b
counts_as counts f g = record { later = counts.later; counted = λ _. counts.counted f; nothing_else = λ _. g }

pub reads_writes : {current current' : ℕ → ℕ} {unsynced unsynced' : ℕ
    → Type 0} {at at' : ℕ} {bytes xs : List ℕ} {done : Type 0}
    → Reads current at xs → Writes at' bytes done current current' unsynced unsynced'
    → Apart at (length xs) at' (length bytes)
    → Reads current' at xs
reads_writes {current = current} {current' = current'} {at = at} {at' = at'} {bytes = bytes}
    {xs = xs} gives writes apart = record {
      reads = span_same current' current at (length xs)
          (λ p here. writes.outside p (λ there. apart_at at (length xs) at' (length bytes) p apart here there))
          ∙ gives.reads;
    }

pub reads_synced : {current current' : ℕ → ℕ} {unsynced unsynced' : ℕ → Type 0} {at : ℕ} {xs : List ℕ} {done : Type 0}
    → Reads current at xs → Syncs done current current' unsynced unsynced' → done → Firm current' unsynced' at xs
reads_synced {current = current} {current' = current'} {at = at} {xs = xs} gives syncs done = record {
  reads = span_same current' current at (length xs) (λ p here. syncs.same done p) ∙ gives.reads;
  is_synced = λ p here. syncs.is_synced done p;
}

pub reads_preserve : {current current' : ℕ → ℕ} {unsynced unsynced' : ℕ → Type 0} {at : ℕ} {xs : List ℕ}
    → Reads current at xs
    → Preserves current current' unsynced unsynced' → Reads current' at xs
reads_preserve {current = current} {current' = current'} {at = at} {xs = xs} gives preserves = record {
  reads = span_same current' current at (length xs) (λ p here. preserves.same p) ∙ gives.reads;
}

-- a read of as many bytes gives them
pub read_is : {current : ℕ → ℕ} {at n : ℕ} {xs buf : List ℕ} → Reads current at xs → buf ≡ span current at n
    → length xs ≡ n
    → buf ≡ xs
read_is {current = current} {at = at} {xs = xs} {buf = buf} gives is size =
    subst (λ (k : ℕ). buf ≡ span current at k) (sym size) is ∙ gives.reads
