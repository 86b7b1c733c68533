use Rattle.std.proofs.Common.{◌≡◌, ◌≤◌, ◌-◌, length, take}
use denote.Shadow.{shadow}
use denote.Text.{Utf8}
use Rattle.enc_encode.specs.Runs.{RunPrefix}
use Rattle.enc_encode.specs.Singles.{IsSingleByte}
use Rattle.enc_encode.proofs.buffer.Buffer.push_singles.Given as goal

abbrev pub invariant-loop-len : goal.invariant-loop-len
invariant-loop-len l = shadow (Utf8 l.rest) × (l.len ≤ 2048) × (length l.self-inside.bytes ≡ 2048)
    × RunPrefix (IsSingleByte l.pointers) l.text l.rest l.fn.self (take l.len l.self-inside.bytes)

abbrev pub decreases-loop-len : goal.decreases-loop-len
decreases-loop-len l = 2048 - l.len
