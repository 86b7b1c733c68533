use Rattle.std.proofs.Common.{◌≡◌, ◌<◌, ◌≤◌, ◌-◌, ◌^◌, ◌++◌, length, drop, replicate}
use Rattle.std.specs.Prelude.{decimal}
use Rattle.enc_encode.proofs.reference.digits_at.Given as goal

abbrev pub invariant-loop-left : goal.invariant-loop-left
invariant-loop-left l = (9 ≤ l.place) × (l.place ≤ 15) × (length l.bytes ≡ 32) × (l.left < 10 ^ (l.place - 8))
    × (decimal l.number ++ replicate 17 0x3B ≡ decimal l.left ++ drop l.place l.bytes)

abbrev pub decreases-loop-left : goal.decreases-loop-left
decreases-loop-left l = l.left
