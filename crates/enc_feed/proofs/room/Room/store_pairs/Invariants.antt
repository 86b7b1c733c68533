use Rattle.std.proofs.Common.{ℕ, List, ◌≡◌, ◌≤◌, ◌+◌, ◌-◌, ◌*◌, length, take, true}
use Rattle.std.specs.Str.{is_utf8}
use Rattle.enc_feed.specs.Batches.{ArePairs, BatchTook}
use Rattle.enc_feed.proofs.room.Room.store_pairs.Given as goal

abbrev pub invariant-loop-at : goal.invariant-loop-at
invariant-loop-at g l =
    let so_far = take l.len l.self-inside.bytes in record {
      took : (given : List ℕ) × ArePairs (g.P.PairReader.represent l.ready) (take l.at l.bytes) given × BatchTook
          l.fn.self given so_far;
      text : is_utf8 so_far ≡ true;
      few : l.len ≤ length l.fn.self + 4 * l.at;
      at : l.at ≤ length l.bytes;
    }

abbrev pub decreases-loop-at : goal.decreases-loop-at
decreases-loop-at g l = length l.bytes - l.at
