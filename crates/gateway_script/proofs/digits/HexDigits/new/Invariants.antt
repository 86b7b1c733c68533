use Rattle.std.proofs.Common.{◌≡◌, length}
use Rattle.gateway_script.specs.Digits.{HaveValues}
use Rattle.gateway_script.proofs.digits.HexDigits.new.Given as goal

abbrev pub invariant-loop-byte : goal.invariant-loop-byte
invariant-loop-byte l = record { long : length l.values ≡ 256; have : HaveValues l.values l.byte }
