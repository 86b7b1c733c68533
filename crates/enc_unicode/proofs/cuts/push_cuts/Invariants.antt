use Rattle.std.proofs.Common.{ℕ, List, ◌+◌, ◌*◌, ◌<◌, ◌≤◌, ◌-◌, length}
use Rattle.enc_feed.specs.Batches.{BatchTook}
use Rattle.enc_unicode.specs.Cuts.{AreCut}
use Rattle.enc_unicode.proofs.cuts.push_cuts.Given as goal

abbrev pub invariant-by_characters : goal.invariant-by_characters
invariant-by_characters l =
    (l.at < length l.bytes) × (length l.batch ≤ length l.fn.batch + 4 * l.at)
    × ((text : List ℕ) × AreCut l.bytes l.at text × BatchTook l.fn.batch text l.batch)

abbrev pub decreases-by_characters : goal.decreases-by_characters
decreases-by_characters l = length l.bytes - l.at
