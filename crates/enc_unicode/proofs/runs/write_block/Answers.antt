use Rattle.std.proofs.Common.{take, ◌+◌, subst, arith}
use Rattle.enc_unicode.specs.WroteUnits.{WroteUnits}
use Rattle.enc_unicode.proofs.runs.write_block.Goals as goal

pub returns-then-is_ascii-clause-wrote : goal.returns-then-is_ascii-clause-wrote
returns-then-is_ascii-clause-wrote c = (
  omega arith,
  subst (λ z. WroteUnits z (take c.args.from c.args.code.now) (take (c.args.from + 32) c.write_ascii.new.code))
      c.units_in-units.ensures c.write_ascii.ensures,
)

pub returns-then-is_narrow-clause-wrote : goal.returns-then-is_narrow-clause-wrote
returns-then-is_narrow-clause-wrote c = (
  omega (arith, c.write_narrow.ensures.few),
  subst (λ z. WroteUnits z (take c.args.from c.args.code.now) (take c.write_narrow.result c.write_narrow.new.code))
      c.units_in-units.ensures c.write_narrow.ensures.wrote,
)

pub returns-then-has_none-clause-wrote : goal.returns-then-has_none-clause-wrote
returns-then-has_none-clause-wrote c = (
  c.write_units.ensures.few,
  subst (λ z. WroteUnits z (take c.args.from c.args.code.now) (take c.write_units.result c.write_units.new.code))
      c.units_in-units.ensures c.write_units.ensures.wrote,
)
