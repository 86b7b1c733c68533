use Rattle.std.proofs.Common.{◌≡◌, ◌≤◌, ◌+◌, ◌*◌, take, true, map, slice_index}
use Rattle.std.specs.Str.{is_utf8}
use Rattle.enc_feed.specs.Batches.{BatchTook}
use Rattle.enc_feed.proofs.room.store_each.Given as goal

abbrev pub invariant-loop-byte : goal.invariant-loop-byte
invariant-loop-byte l =
    let so_far = take l.len l.room in record {
      took : BatchTook (take l.fn.from l.fn.room) (map (λ b. slice_index l.chars b) (take l.byte-index l.bytes)) so_far;
      text : is_utf8 so_far ≡ true;
      few : l.len ≤ l.fn.from + 4 * l.byte-index;
    }
