use Rattle.std.proofs.Common.{◌≡◌, ◌≤◌, ◌-◌, false, take, length}
use Rattle.enc_feed.specs.Batches.{BatchTook}
use Rattle.enc_model.specs.Stream.{steps}
use Rattle.enc_legacy.proofs.stride.decode_strides.Given as goal

abbrev pub invariant-loop-at : goal.invariant-loop-at
invariant-loop-at g l =
    let so_far = steps (g.D.Decoder.handler l.tables) false l.fn.state (take l.at l.block) in record {
      text : BatchTook l.fn.batch so_far.text l.batch;
      state : l.state ≡ so_far.state;
      at : l.at ≤ length l.block;
    }

abbrev pub decreases-loop-at : goal.decreases-loop-at
decreases-loop-at g l = length l.block - l.at
