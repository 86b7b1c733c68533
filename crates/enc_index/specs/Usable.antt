-- The pointers that an encoder may use.
use Rattle.std.specs.Prelude.{ℕ, Bool, not, nat_le}
use Rattle.enc_model.specs.Index.{within}
use Rattle.enc_index.specs.declared.usable.Usable.{Usable}
use Rattle.enc_index.specs.declared.usable.Usable.TheVariants.{All, OfShiftJis}

-- The Shift_JIS encoder leaves out 8272 to 8835.
abbrev pub includes : Usable → ℕ → Bool
includes All p = nat_le 0 p
includes OfShiftJis p = not (within 8272 8835 p)
