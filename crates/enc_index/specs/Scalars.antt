-- Scalar values.
use Rattle.std.specs.Prelude.{ℕ, Bool, ◌||◌, nat_lt}
use Rattle.enc_model.specs.Index.{within}

-- Neither a surrogate nor a value above 10FFFF.
abbrev pub is_scalar : ℕ → Bool
is_scalar c = nat_lt c 0xD800 || within 0xE000 0x10FFFF c
