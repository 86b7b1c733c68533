-- The byte order of UTF-16, as the handler takes it.
use Rattle.std.specs.Prelude.{Bool, true, false}
use Rattle.lane_kernels.specs.declared.order.Order.{Order}
use Rattle.lane_kernels.specs.declared.order.Order.TheVariants.{Big, Little}

-- The higher byte comes first.
abbrev pub is_big : Order → Bool
is_big Big = true
is_big Little = false
