-- Units encoded as text.
use Rattle.std.specs.Prelude.{ℕ, List, ◌≡◌, ◌++◌}
use Rattle.std.specs.List.{prefix_len}
use Rattle.std.specs.Str.{IsUtf8, chars}
use Rattle.lane_kernels.specs.Units.{is_scalar_unit}

-- The 32 units of a block, none of them a surrogate, follow the text.
pub record WroteUnits (units old new : List ℕ) : Type 0 where
  pub scalars : prefix_len is_scalar_unit units ≡ 32
  pub utf8 : IsUtf8 new
  pub text : chars new ≡ chars old ++ units
