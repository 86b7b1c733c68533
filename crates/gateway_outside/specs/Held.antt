-- Files that spools are in, of which one is opened and closed.
use Rattle.std.proofs.Common.{◌≡◌, ◌∙◌, ap, arith, inl, refl, sym, ℕ, Bool, true, false, List, Option, Some}
use Rattle.std.proofs.Common.{None, if◌then◌else◌}
use Rattle.std.specs.Prelude.{bytes_eq}
use Rattle.std.proofs.lemmas.Slice.Eq.{bytes_eq-Decides}
use Rattle.spool_disk.specs.declared.disk.Disk.{Ghosts}
use Rattle.gateway_outside.specs.SpoolFiles.{Disks, Leaves, LeavesOthers, OnlyRead, with_disk}

-- what wasn't even read was only read
pub unread : {D : Type 0} (disk : Ghosts D) (d : D) → OnlyRead disk d d
unread disk d = record {
  size = refl;
  honest = λ honest. honest;
  preserves = λ honest. record { same = λ p. refl; unsyncs = λ p is. is };
  lasts = λ honest. record { later = omega arith; nothing_else = λ t image le since. inl since };
}

twice : {X : Type 0} (b : Bool) (x y z : X) → (if b then y else (if b then x else z)) ≡ (if b then y else z)
twice b x y z = grind arith

-- what is put under a path last is there
with_twice : {D : Type 0} (disks : Disks D) (path : List ℕ) (x y : Option D)
    → with_disk (with_disk disks path x) path y ≡ with_disk disks path y
with_twice disks path x y = λ i other. twice (bytes_eq other path) x y (disks other) i

here : {D : Type 0} (disks : Disks D) (path : List ℕ) (x : Option D) → disks path ≡ x → (other : List ℕ) (b : Bool)
    → bytes_eq other path ≡ b → (if b then x else disks other) ≡ disks other
here disks path x is other true same = sym is ∙ ap disks (sym ((bytes_eq-Decides other path).0 same))
here disks path x is other false same = refl

-- the disk that is put under a path is there
chosen : {D : Type 0} (x y : Option D) (b : Bool) → b ≡ true → (if b then x else y) ≡ x
chosen x y true same = refl
chosen x y false same = absurd (cc)

pub there : {D : Type 0} (disks : Disks D) (path : List ℕ) (x : Option D) → with_disk disks path x path ≡ x
there disks path x = chosen x (disks path) (bytes_eq path path) ((bytes_eq-Decides path path).1 refl)

with_same : {D : Type 0} (disks : Disks D) (path : List ℕ) (x : Option D) → disks path ≡ x
    → with_disk disks path x ≡ disks
with_same disks path x is = λ i other. here disks path x is other (bytes_eq other path) refl i

pub one_disk : {D : Type 0} (a b : D) (there : Option D) → there ≡ Some a → there ≡ Some b → a ≡ b
one_disk a b there this that = cc

module _ {D : Type 0} (holds : Disks D → Type 0) (disks : Disks D) (path : List ℕ) where
  -- what was at the path before doesn't matter
  pub leaves_put : (x : Option D) (P : D → Type 0) (d : D) → holds (with_disk (with_disk disks path x) path (Some d))
      → P d → Leaves holds disks path P
  leaves_put x P d held so = record {
    disk = d;
    held = rw (with_twice disks path x (Some d)) at held;
    is = so;
  }

  pub others_put : (x y : Option D) → holds (with_disk (with_disk disks path x) path y) → LeavesOthers holds disks path
  others_put x y held = record { there = y; held = rw (with_twice disks path x y) at held }

  pub others_again : (x : Option D) → LeavesOthers holds (with_disk disks path x) path → LeavesOthers holds disks path
  others_again x left = others_put x left.there left.held

  -- where nothing was done
  pub leaves_same : (d : D) (P : D → Type 0) → disks path ≡ Some d → holds disks → P d → Leaves holds disks path P
  leaves_same d P is held so = record {
    disk = d;
    held = rw (with_same disks path (Some d) is) held;
    is = so;
  }

  pub others_same : holds disks → LeavesOthers holds disks path
  others_same held = record {
    there = disks path;
    held = rw (with_same disks path (disks path) refl) held;
  }

  -- one disk is at the path
  pub leaves_as : (there d : D) (Q : D → D → Type 0) → disks path ≡ Some there → disks path ≡ Some d
      → Leaves holds disks path (Q there) → Leaves holds disks path (Q d)
  leaves_as there d Q is this left = rw (one_disk there d (disks path) is this) at left

  -- it was opened, only read, and closed
  pub leaves_read : (disk : Ghosts D) (there d after : D) → disks path ≡ Some there → disks path ≡ Some d
      → holds (with_disk (with_disk disks path None) path (Some after)) → OnlyRead disk there after
      → Leaves holds disks path (OnlyRead disk d)
  leaves_read disk there d after is this held read =
      leaves_as there d (λ x. OnlyRead disk x) is this (leaves_put None (OnlyRead disk there) after held read)

  pub leaves_again : (x : Option D) (P Q : D → Type 0) → Leaves holds (with_disk disks path x) path P
      → ((d : D) → P d → Q d) → Leaves holds disks path Q
  leaves_again x P Q left so = leaves_put x Q left.disk left.held (so left.disk left.is)

  -- what is so of the disk, said otherwise
  pub leaves_more : (P Q : D → Type 0) → Leaves holds disks path P → ((d : D) → P d → Q d)
      → Leaves holds disks path Q
  leaves_more P Q left so = record { disk = left.disk; held = left.held; is = so left.disk left.is }
