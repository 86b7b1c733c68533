use Rattle.std.proofs.Common.{◌≡◌, ◌<◌, ℕ, Some, None, get_or}
use Rattle.spool_catalog.specs.Checks.{RecordPasses}
use Rattle.spool_pages.specs.View.{SlotRecord}
use Rattle.spool_catalog.proofs.checks.are_valid.Given as goal

abbrev pub invariant-loop-slot : goal.invariant-loop-slot
invariant-loop-slot l = (s : ℕ) (r : SlotRecord) → s < l.slot → get_or l.slots s None ≡ Some r → RecordPasses l.next r
