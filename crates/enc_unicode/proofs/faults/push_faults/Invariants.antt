use Rattle.std.proofs.Common.{◌≡◌, ◌≤◌, ◌-◌, false, take, length}
use Rattle.enc_feed.specs.Batches.{BatchTook}
use Rattle.enc_model.specs.Stream.{steps}
use Rattle.enc_model.specs.Utf8.{utf8, utf8_start}
use Rattle.enc_unicode.proofs.faults.push_faults.Given as goal

abbrev pub invariant-loop-at : goal.invariant-loop-at
invariant-loop-at l =
    let so_far = steps utf8 false utf8_start (take l.at l.bytes) in
    BatchTook l.fn.batch so_far.text l.batch × (utf8_start ≡ so_far.state) × (l.at ≤ length l.bytes)
    × (l.at ≡ 0 → l.batch ≡ l.fn.batch)

abbrev pub decreases-loop-at : goal.decreases-loop-at
decreases-loop-at l = length l.bytes - l.at
