use Rattle.std.proofs.Common.{arith}
use Rattle.std.proofs.lemmas.List.{length-set}
use Rattle.gateway_script.proofs.Hexes.{values_more}
use Rattle.gateway_script.proofs.digits.HexDigits.new.Goals as goal

pub loop-byte-preserved : goal.loop-byte-preserved
loop-byte-preserved c =
    let now = c.loop-byte.invariant in
    let long = length-set c.loop-byte.values c.loop-byte.byte c.value.result in
    record {
      long = omega (arith, long);
      have = values_more c.loop-byte.values c.loop-byte.byte c.value.result (omega arith) now.have c.value.ensures;
    }
