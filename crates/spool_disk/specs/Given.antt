-- What the reads of a disk gave.
use Rattle.std.specs.Prelude.{◌≡◌, ◌⊎◌, ◌≤◌, ◌<◌, ℕ, List, [], ◌∷◌, length}
pub use Rattle.common.specs.Given.{MoreReads, given}
use Rattle.common.specs.declared.given.GivenRead.{GivenRead}
use Rattle.spool_disk.specs.Disk.{In, span}

-- Each of these reads gave the bytes that are at its place.
abbrev pub AllGave : (ℕ → ℕ) → List GivenRead → Type 0
AllGave bytes [] = Unit {0}
AllGave bytes (g ∷ gs) = (span bytes g.at (length g.bytes.items) ≡ g.bytes.items) × AllGave bytes gs

-- The reads since gave these bytes.
pub record ReadsGave (bytes : ℕ → ℕ) (old new : List GivenRead) : Type 0 where
  pub since : MoreReads old new
  pub all : AllGave bytes since.added

-- A place of this read.
abbrev pub IsOf : GivenRead → ℕ → Type 0
IsOf g p = In g.at (length g.bytes.items) p

-- A place of one of these reads.
abbrev pub IsOfAny : List GivenRead → ℕ → Type 0
IsOfAny [] p = ⊥
IsOfAny (g ∷ gs) p = IsOf g p ⊎ IsOfAny gs p

-- No place is of two of these reads.
abbrev pub AreApart : List GivenRead → Type 0
AreApart [] = Unit {0}
AreApart (g ∷ gs) = ((p : ℕ) → IsOf g p → IsOfAny gs p → ⊥) × AreApart gs

-- The reads since are of such places, and none twice. So there are bytes that all of them gave.
pub record ReadsOnce (P : ℕ → Type 0) (old new : List GivenRead) : Type 0 where
  pub since : MoreReads old new
  pub within : (p : ℕ) → IsOfAny since.added p → P p
  pub once : AreApart since.added

-- Places: all, and those from one to before another.
abbrev pub Anywhere : ℕ → Type 0
Anywhere p = Unit {0}

abbrev pub Between : (from to : ℕ) → ℕ → Type 0
Between from to p = (from ≤ p) × (p < to)
