use Rattle.std.proofs.Common.{◌≤◌, ◌-◌, take, length}
use Rattle.std.specs.Str.{IsUtf8}
use Rattle.enc_unicode.proofs.by_characters.text_before_fault.Given as goal

abbrev pub invariant-by_characters : goal.invariant-by_characters
invariant-by_characters l = (l.at ≤ length l.bytes) × IsUtf8 (take l.at l.bytes)

abbrev pub decreases-by_characters : goal.decreases-by_characters
decreases-by_characters l = length l.bytes - l.at
