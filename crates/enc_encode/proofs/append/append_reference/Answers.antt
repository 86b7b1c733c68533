use Rattle.std.proofs.Common.{◌∷◌, [], ◌++◌}
use Rattle.std.specs.Prelude.{decimal}
use Rattle.enc_encode.proofs.Growth.{prefix, after_part, more, exit}
use Rattle.enc_encode.proofs.append.append_reference.Goals as goal

pub returns-in_err-append : goal.returns-in_err-append
returns-in_err-append c =
    exit _ c.from_residual.result c.from_residual.ensures.1
    (prefix (decimal c.args.c ++ 0x3B ∷ []) c.in_err-append.ensures.grew)

pub returns-in_err-append_decimal : goal.returns-in_err-append_decimal
returns-in_err-append_decimal c =
    exit _ c.from_residual-in_err-append_decimal.result c.from_residual-in_err-append_decimal.ensures.1
    (after_part c.in_ok-append.ensures.grew (prefix (0x3B ∷ []) c.in_err-append_decimal.ensures))

pub returns : goal.returns
returns c = more _ _ c.append-2.result c.in_ok-append.ensures.grew
    (more _ _ c.append-2.result c.in_ok-append_decimal.ensures c.append-2.ensures.grew)
