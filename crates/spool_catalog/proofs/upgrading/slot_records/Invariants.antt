use Rattle.std.proofs.Common.{◌≡◌, ◌≤◌, ℕ, None, IfSome, length, get_or, take}
use Rattle.common.specs.declared.limits.TheConstants.{MOST_METADATA}
use Rattle.spool_catalog.proofs.upgrading.slot_records.Given as goal

abbrev pub invariant-loop-slot : goal.invariant-loop-slot
invariant-loop-slot l = record {
  slot_record : l.records.items ≡ take l.slot l.slots;
  short : (s : ℕ) → IfSome (get_or l.records.items s None) (λ r. length r.metadata ≤ MOST_METADATA);
}
