use Rattle.std.proofs.Common.{◌≡◌, ◌≤◌, ◌+◌, ◌*◌, ◌-◌, length, take, drop}
use Rattle.std.specs.Str.{IsUtf8}
use Rattle.enc_encode.specs.Runs.{RunPrefix}
use Rattle.enc_encode.specs.Singles.{IsSingleByte}
use Rattle.enc_encode.proofs.single_runs.put_singles.Given as goal

abbrev pub invariant-loop-count : goal.invariant-loop-count
invariant-loop-count l = (2 * l.count ≤ length l.text) × (l.from + l.count ≤ 2048) × (length l.held ≡ 2048)
    × IsUtf8 (drop (2 * l.count) l.text)
    × RunPrefix (IsSingleByte l.pointers) l.text (drop (2 * l.count) l.text) (take l.from l.fn.held)
    (take (l.from + l.count) l.held)

abbrev pub decreases-loop-count : goal.decreases-loop-count
decreases-loop-count l = l.most - l.count
