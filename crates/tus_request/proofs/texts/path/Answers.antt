use Rattle.std.proofs.Common.{arith, sym, ◌∙◌, ◌≡◌, take}
use Rattle.std.specs.List.{position_or_len}
use Rattle.std.specs.Prelude.{◌==◌}
use Rattle.std.proofs.lemmas.List.{take_all}
use Rattle.std.proofs.lemmas.Str.Pattern.{split_once_first}
use Rattle.common.proofs.Splits.{before_first_is}
use Rattle.tus_request.proofs.texts.path.Goals as goal

pub returns-in-Some : goal.returns-in-Some
returns-in-Some c =
    let s = split_once_first 63 c.args.target.now c.split_once.result c.split_once.ensures.cases (omega arith) in
    let t = rw c.in-Some.is at s in t.1 ∙ before_first_is 63 c.args.target.now

pub returns-in-None : goal.returns-in-None
returns-in-None c =
    let s = split_once_first 63 c.args.target.now c.split_once.result c.split_once.ensures.cases (omega arith) in
    let t = rw c.in-None.is at s in
    let a : take (position_or_len (λ b. b == 63) c.args.target.now) c.args.target.now ≡ c.args.target.now =
    take_all _ c.args.target.now (omega arith) in
    sym a ∙ before_first_is 63 c.args.target.now
