use Rattle.std.proofs.Common.{ℕ, ◌-◌, ◌≡◌, ◌<◌, ◌≤◌, ◌+◌, Some}
use Rattle.enc_index.specs.Entries.{found_pointer}
use Rattle.enc_encode.proofs.letters.count_letters.Given as goal

abbrev pub invariant-loop-count : goal.invariant-loop-count
invariant-loop-count l = (l.count ≤ 128) × ((k : ℕ) → k < l.count
    → found_pointer l.pointers (1040 + k) ≡ Some (l.pointer + k))

abbrev pub decreases-loop-count : goal.decreases-loop-count
decreases-loop-count l = 128 - l.count
