use Rattle.std.proofs.Common.{◌≡◌, ◌<◌, ℕ, None, length, get_or}
use Rattle.spool_catalog.specs.Holding.{AreListsTo, OwnsText}
use Rattle.spool_catalog.proofs.lists.lists_of.Given as goal

abbrev pub invariant-loop-slot : goal.invariant-loop-slot
invariant-loop-slot l = record {
  long : length l.lists.items ≡ l.slot;
  lists : AreListsTo l.blocks.rows l.slots l.lists.items l.slot;
  whole : (s : ℕ) → s < l.slot → OwnsText l.blocks.rows s (get_or l.slots s None);
}
