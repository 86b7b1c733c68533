-- The loops over a text's characters: three are made for one encoding each. No other loop needs a certain one.
use Rattle.std.specs.Prelude.{ℕ, ◌≡◌}
use Rattle.enc_model.specs.declared.Encoding.{Encoding}
use Rattle.enc_model.specs.declared.Encoding.TheVariants.{ShiftJis, EucJp, Iso2022Jp}
use Rattle.enc_encode.specs.declared.loops.TheConstants.{SHIFT_JIS, EUC_JP, ISO_2022_JP}

-- this loop may be run for this encoding
pub record IsLoopOf (loop : ℕ) (to : Encoding) : Type 0 where
  pub shift_jis : loop ≡ SHIFT_JIS → to ≡ ShiftJis
  pub euc_jp : loop ≡ EUC_JP → to ≡ EucJp
  pub iso_2022_jp : loop ≡ ISO_2022_JP → to ≡ Iso2022Jp
