use Rattle.std.proofs.Common.{◌<◌, ℕ, None, get_or}
use Rattle.common.specs.declared.limits.TheConstants.{SLOTS}
use Rattle.spool_blocks.specs.Chains.{Owns}
use Rattle.spool_catalog.specs.Checks.{RowPasses}
use Rattle.spool_pages.specs.Fits.{FitsRow}
use Rattle.spool_catalog.proofs.checks.are_rows_valid.Given as goal

abbrev pub invariant-loop-i : goal.invariant-loop-i
invariant-loop-i l = record {
  valid : (b slot ordinal : ℕ) → b < l.i → Owns l.rows b slot ordinal → RowPasses l.slots slot ordinal;
  slots : (b slot ordinal : ℕ) → b < l.i → Owns l.rows b slot ordinal → slot < SLOTS;
  fits : (b : ℕ) → b < l.i → FitsRow (get_or l.rows b None);
}
