use Rattle.std.proofs.Common.{add-one, arith}
use Rattle.std.proofs.lemmas.Bool.{false_from_ne_true}
use Rattle.gateway_script.proofs.Cuts.{cut_at, uncut}
use Rattle.gateway_script.proofs.runs.first_line.Goals as goal

pub returns-in-Some-clause-line : goal.returns-in-Some-clause-line
returns-in-Some-clause-line c =
    let first = c.in-Some.ensures in
    rw add-one (cut_at c.in-Some.at c.args.script.now first.0.high
    (λ k l. false_from_ne_true _ (first.0.before k (omega arith) l)) first.1).0

pub returns-in-None-clause-line : goal.returns-in-None-clause-line
returns-in-None-clause-line c =
    (uncut c.args.script.now (λ k l. false_from_ne_true _ (c.in-None.ensures k (omega arith) l))).0
