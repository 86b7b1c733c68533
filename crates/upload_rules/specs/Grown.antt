-- An invariant of all worlds of a history: while a patch is open, its upload only grows or is deleted.
use Rattle.std.specs.Prelude.{◌≡◌, ℕ, List, Option, Some, None}
use Rattle.upload_rules.specs.Store.{Upload, upload_of, find, patched}
use Rattle.upload_rules.specs.World.{Patch, World}

-- The upload is the one that the patch began at, grown by other patches, or it is gone.
abbrev pub GrewFrom : Patch → Option Upload → Type 0
GrewFrom p None = Unit {0}
GrewFrom p (Some u) = (declare : Option ℕ) × (more : List ℕ) × (u ≡ patched p.began declare more)

-- This holds of each open patch.
pub record IsGrown (w : World) : Type 0 where
  pub each : (d : ℕ) (p : Patch) → find d w.patches ≡ Some p → GrewFrom p (upload_of w.store p.number)
