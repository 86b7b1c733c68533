use Rattle.std.proofs.Common.{ℕ, ◌≡◌, ◌<◌, ◌≤◌, ◌-◌, true, length, get_or}
use Rattle.enc_model.specs.Index.{within}
use Rattle.enc_unicode.proofs.cuts.trail_len.Given as goal

abbrev pub invariant-loop-at : goal.invariant-loop-at
invariant-loop-at l =
    (l.at ≤ l.most) × (l.at ≤ length l.bytes)
    × ((k : ℕ) → k < l.at → within 0x80 0xBF (get_or l.bytes k 0) ≡ true)

abbrev pub decreases-loop-at : goal.decreases-loop-at
decreases-loop-at l = l.most - l.at
