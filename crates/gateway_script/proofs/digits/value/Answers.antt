use Rattle.std.proofs.Common.{ap, sym, ◌∙◌}
use Rattle.gateway_script.proofs.Hexes.{digit_alone, first_of}
use Rattle.gateway_script.proofs.digits.value.Goals as goal

pub returns-in-Ok : goal.returns-in-Ok
returns-in-Ok c = ap first_of (sym c.in-Ok.is ∙ c.from_hex.ensures) ∙ digit_alone c.args.byte

pub returns-in-Err : goal.returns-in-Err
returns-in-Err c = ap first_of (sym c.in-Err.is ∙ c.from_hex.ensures) ∙ digit_alone c.args.byte
