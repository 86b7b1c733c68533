use Rattle.std.proofs.Common.{◌-◌, ◌∙◌, arith, length, drop}
use Rattle.std.proofs.lemmas.List.{take-take}
use Rattle.enc_encode.proofs.single_runs.lanes_at.Goals as goal

pub returns : goal.returns
returns c =
    let long = c.requires in
    c.in-Some.ensures.cases.same
    ∙ take-take 32 (length c.args.bytes.now - c.args.at) (drop c.args.at c.args.bytes.now) (omega (arith, long))
