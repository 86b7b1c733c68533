-- THE NUMBERS OF THE METADATA, in the words of docs/FORMAT.md. Definitions and clauses have RECORD, SLOTS and so on,
-- which are the code's: each is the format's.
use Rattle.std.specs.Prelude.{◌≡◌}
use Rattle.common.specs.declared.limits.TheConstants.{MOST_LENGTH, MOST_METADATA, ROWS, SLOTS}
use Rattle.spool_pages.specs.declared.places.TheConstants.{AREA_PAGES, FIRST_ROW_PAGE}
use Rattle.spool_pages.specs.declared.records.TheConstants.{RECORD, TAG}

pub record IsLaidOut : Type 0 where
  -- 256 pages of two records of 2,048 bytes, one for each of 512 slots; the length's tag is byte 1602
  pub slots : SLOTS ≡ 512
  pub size : RECORD ≡ 2048
  pub metadata : MOST_METADATA ≡ 1536
  pub tag : TAG ≡ 1602
  pub longest : MOST_LENGTH ≡ 1073741824
  -- rows of 8 bytes, 512 a page, behind the state page and the records
  pub rows : ROWS ≡ 512
  pub first_rows : FIRST_ROW_PAGE ≡ 257
  -- an index area of 22 pages
  pub area : AREA_PAGES ≡ 22
