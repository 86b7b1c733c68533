-- The checks of what was read.
use Rattle.std.specs.Prelude.{◌≡◌, ℕ, ◌^◌, ◌<◌, ◌≤◌, List, Option, Some, None, get_or}
use Rattle.common.specs.declared.limits.TheConstants.{MOST_LENGTH}
use Rattle.spool_blocks.specs.Chains.{Owns}
use Rattle.upload_rules.specs.Lengths.{longest}
use Rattle.upload_rules.specs.Room.{blocks_of}
use Rattle.spool_catalog.specs.Shows.{HasState}
use Rattle.spool_pages.specs.View.{SlotRecord}

-- The record's numbers and state are valid.
pub record RecordPasses (next : ℕ) (r : SlotRecord) : Type 0 where
  pub below : r.number < next
  pub accepted : r.accepted ≤ longest r.declared
  pub declared : longest r.declared ≤ MOST_LENGTH
  pub state : HasState r

-- The next number and all records are valid.
pub record RecordsPass (next : ℕ) (slots : List (Option SlotRecord)) : Type 0 where
  pub least : 1 ≤ next
  pub most : next ≤ 10 ^ 18
  pub records : (s : ℕ) (r : SlotRecord) → get_or slots s None ≡ Some r → RecordPasses next r

-- The row's slot is in use, and its ordinal below the number of the text's blocks.
pub record RowPasses (slots : List (Option SlotRecord)) (slot ordinal : ℕ) : Type 0 where
  pub used : SlotRecord
  pub there : get_or slots slot None ≡ Some used
  pub below : ordinal < blocks_of used.text_len

-- The same of every row.
abbrev pub RowsPass : List (Option SlotRecord) → List (Option (ℕ × ℕ)) → Type 0
RowsPass slots rows = (b slot ordinal : ℕ) → Owns rows b slot ordinal → RowPasses slots slot ordinal
