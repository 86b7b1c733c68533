use Rattle.std.proofs.Common.{ℕ, ◌<◌, IsSome, None, get_or}
use Rattle.spool_catalog.proofs.taking_in.free_slot.Given as goal

abbrev pub invariant-loop-slot : goal.invariant-loop-slot
invariant-loop-slot l = (s : ℕ) → s < l.slot → IsSome (get_or l.slots s None)
