use Rattle.std.proofs.Common.{◌≡◌, ◌≤◌, ◌+◌, ◌-◌, ◌*◌, length, take, true, map, slice_index}
use Rattle.std.specs.Str.{is_utf8}
use Rattle.enc_feed.specs.Batches.{BatchTook}
use Rattle.enc_feed.proofs.room.Room.store_bytes.Given as goal

abbrev pub invariant-loop-at : goal.invariant-loop-at
invariant-loop-at g l =
    let so_far = take l.len l.self-inside.bytes in record {
      took : BatchTook l.fn.self (map (λ b. slice_index l.chars b) (take l.at l.bytes)) so_far;
      text : is_utf8 so_far ≡ true;
      few : l.len ≤ length l.fn.self + 4 * l.at;
      at : l.at ≤ length l.bytes;
    }

abbrev pub decreases-loop-at : goal.decreases-loop-at
decreases-loop-at g l = length l.bytes - l.at
