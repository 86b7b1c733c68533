use Rattle.std.proofs.Common.{◌≡◌, ◌≤◌, ◌-◌, length, take, drop}
use Rattle.std.specs.Str.{IsUtf8}
use Rattle.enc_model.specs.Encode.{encoder}
use Rattle.enc_model.specs.Indexes.{tables}
use Rattle.enc_encode.specs.Runs.{RunPrefix, Stays}
use Rattle.enc_encode.specs.State.{shift_of}
use Rattle.enc_encode.proofs.pair_runs.put_pairs.Given as goal

abbrev pub invariant-loop-at : goal.invariant-loop-at
invariant-loop-at l = (l.at ≤ length l.text) × (l.len ≤ 2048) × (length l.held ≡ 2048) × IsUtf8 (drop l.at l.text)
    × RunPrefix (Stays (encoder (tables l.set) l.to) (shift_of l.shift)) l.text (drop l.at l.text)
    (take l.from l.fn.held) (take l.len l.held)

abbrev pub decreases-loop-at : goal.decreases-loop-at
decreases-loop-at l = 2048 - l.len
