use Rattle.std.proofs.Common.{◌∷◌, []}
use Rattle.std.proofs.lemmas.Fmt.{decimal_digit, decimal_step}
use Rattle.std.proofs.Common.{◌<◌, ◌^◌, arith, ◌%◌, ◌+◌}
use Rattle.enc_encode.proofs.Growth.{prefix, more, exit}
use Rattle.enc_encode.proofs.append.+append_decimal.Goals as goal

pub returns-then-number-lt10 : goal.returns-then-number-lt10
returns-then-number-lt10 t c = rw (decimal_digit c.args.number c.if-number-lt10.true) c.append.ensures.grew

pub returns-in_err-append_decimal : goal.returns-in_err-append_decimal
returns-in_err-append_decimal t c =
    let small : c.args.number < 2 ^ 64 = omega arith in
    rw (decimal_step c.args.number c.if-number-lt10.false small)
    (exit _ c.from_residual.result c.from_residual.ensures.1
    (prefix ((48 + c.args.number % 10) ∷ []) c.in_err-append_decimal.ensures))

pub returns : goal.returns
returns t c =
    let small : c.args.number < 2 ^ 64 = omega arith in
    rw (decimal_step c.args.number c.if-number-lt10.false small)
    (more _ _ c.append-2.result c.in_ok-append_decimal.ensures c.append-2.ensures.grew)
