use Rattle.std.proofs.Common.{◌*◌, refl, ap, sym, ◌∙◌, arith}
use Rattle.hex.proofs.Pairs.{decode_done, decode_step}
use Rattle.tus_request.specs.Value.{answered}
use Rattle.gateway_script.proofs.Hexes.{read_ends, read_is}
use Rattle.gateway_script.proofs.digits.HexDigits.read.Goals as goal

pub returns-in_default : goal.returns-in_default
returns-in_default c =
    read_ends c.args.text.now c.loop-i.out c.loop-i.i _ (omega arith) refl
    (sym c.in_default.is ∙ c.pair.ensures (2 * c.loop-i.i)) c.loop-i.invariant

pub loop-i-preserved : goal.loop-i-preserved
loop-i-preserved c =
    decode_step c.args.text.now c.loop-i.out c.loop-i.i c.in-Some.byte (omega arith) (omega arith)
    (read_is _ c.in-Some.byte (sym c.in-Some.is ∙ c.pair.ensures (2 * c.loop-i.i))) c.loop-i.invariant

pub returns : goal.returns
returns c =
    ap answered (decode_done c.args.text.now c.loop-i.out c.loop-i.i (omega arith) (omega arith) c.loop-i.invariant)
