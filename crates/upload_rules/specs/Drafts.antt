-- Open drafts by their numbers.
use Rattle.std.specs.Prelude.{◌≡◌, ◌<◌, ◌==◌, ℕ, true, List, Option, Some, None, slice_index_or, if◌then◌else◌}
use Rattle.upload_rules.specs.World.{Patch, is_there}

-- The draft of number d.
abbrev pub draft_at : {A : Type 0} → List (Option A) → ℕ → Option A
draft_at drafts d = slice_index_or drafts d None

-- A draft that represents the patch, or neither.
abbrev pub DraftOf : {A : Type 0} → (Patch → A → Type 0) → Option Patch → Option A → Type 0
DraftOf Holds None None = Unit {0}
DraftOf Holds (Some p) (Some a) = Holds p a
DraftOf Holds _ _ = ⊥

-- The draft is at the least number that was free.
pub record IsPlaced {A : Type 0} (old : List (Option A)) (a : A) (place : ℕ) (new : List (Option A)) : Type 0 where
  pub free : draft_at old place ≡ None
  pub least : (d : ℕ) → d < place → is_there (draft_at old d) ≡ true
  pub after : (d : ℕ) → draft_at new d ≡ (if d == place then Some a else draft_at old d)
