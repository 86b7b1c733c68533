-- THE NUMBERS OF AN INDEX AREA, in the words of docs/FORMAT.md. Definitions and clauses have AREA_SIZE, FILES and so
-- on, which are the code's: each is the format's.
use Rattle.std.specs.Prelude.{◌≡◌}
use Rattle.enc_index.specs.declared.area.TheConstants.{AREA_SIZE}
use Rattle.enc_index.specs.declared.sizes.TheConstants.{ENTRIES_END, ENTRIES_START, FILES, JIS0208_POINTERS}
use Rattle.enc_index.specs.declared.sizes.TheConstants.{JIS0212_POINTERS, KATAKANA_POINTERS, SINGLE_POINTERS}

pub record IsLaidOut : Type 0 where
  -- 18 flags, tables from byte 32 on, zeros from byte 88,428 on, up to 90,112 bytes
  pub size : AREA_SIZE ≡ 90112
  pub files : FILES ≡ 18
  pub tables : ENTRIES_START ≡ 32
  pub tables_end : ENTRIES_END ≡ 88428
  -- tables of 11,280, 8,836, 63 and fifteen times 128 entries
  pub jis0208 : JIS0208_POINTERS ≡ 11280
  pub jis0212 : JIS0212_POINTERS ≡ 8836
  pub katakana : KATAKANA_POINTERS ≡ 63
  pub single : SINGLE_POINTERS ≡ 128
