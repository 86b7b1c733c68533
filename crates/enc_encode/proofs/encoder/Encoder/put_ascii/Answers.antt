use Rattle.std.proofs.Common.{[]}
use Rattle.std.proofs.lemmas.Result.{err_from_is_err_and}
use Rattle.enc_model.specs.Encode.{Tables}
use Rattle.enc_encode.proofs.Runs.{gave_refused, gave_explains}
use Rattle.enc_encode.proofs.encoder.Encoder.put_ascii.Goals as goal

pub returns-in_err-self-inside-clause-given : goal.returns-in_err-self-inside-clause-given
returns-in_err-self-inside-clause-given c t =
    let p = err_from_is_err_and c.from_residual.result c.from_residual.ensures.1 in
    rw (p.1, p.2) (gave_refused t c.args.self.now c.args.run.now c.args.out.now c.encode_ascii.new.out
    c.in_err-self-inside.field-0.0 (c.in_err-self-inside.ensures t))

pub returns-in_err-self-inside-clause-errors : goal.returns-in_err-self-inside-clause-errors
returns-in_err-self-inside-clause-errors c t =
    let p = err_from_is_err_and c.from_residual.result c.from_residual.ensures.1 in
    rw (p.1, p.2) (gave_explains t c.args.self.now (Unit {0}) c.args.run.now c.args.out.now c.encode_ascii.new.out
    c.in_err-self-inside.field-0.0 (c.in_err-self-inside.ensures t))

no_tables : Tables
no_tables = record { jis0208 = []; jis0212 = []; katakana = []; single = λ e. [] }

pub returns-clause-capacity : goal.returns-clause-capacity
returns-clause-capacity c = (c.in_ok-self-inside.ensures no_tables).2.capacity
