-- How a count of disk faults goes on.
use Rattle.std.specs.Prelude.{ℕ, ◌+◌, ◌^◌, ◌<◌, ◌≤◌, ◌⊎◌}

-- The count of disk faults grows exactly at a fault, up to the greatest u64.
pub record Counts (failed : Type 0) (before now : ℕ) : Type 0 where
  pub later : before ≤ now
  pub counted : failed → (before < now) ⊎ (2 ^ 64 ≤ before + 1)
  pub nothing_else : before < now → failed
