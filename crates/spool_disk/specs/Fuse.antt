-- The parts of a disk with a fuse, and its calls.
use Rattle.std.specs.Prelude.{◌≡◌, ◌+◌, ℕ}
use Rattle.spool_disk.specs.declared.fuse.FuseDisk.{FuseDisk}

-- The inner disk.
abbrev pub inner_of : {D : Type 0} → FuseDisk D → D
inner_of disk = disk.inner

-- How many calls still pass.
abbrev pub calls_left : {D : Type 0} → FuseDisk D → ℕ
calls_left disk = disk.left

-- How many calls it failed itself.
abbrev pub failed_of : {D : Type 0} → FuseDisk D → ℕ
failed_of disk = disk.failed

-- A call. If none is left it fails, and the inner disk isn't asked. Otherwise the inner disk is asked, and one fewer is
-- left.
pub record Spends {D : Type 0} (within : D → D → Type 0) (failed : Type 0) (old new : FuseDisk D) : Type 0 where
  pub stops : calls_left old ≡ 0 → failed × (inner_of new ≡ inner_of old) × (calls_left new ≡ 0)
  pub passes : (calls : ℕ) → calls_left old ≡ calls + 1 → (calls_left new ≡ calls) × (failed_of new ≡ failed_of old)
      × within (inner_of old) (inner_of new)
