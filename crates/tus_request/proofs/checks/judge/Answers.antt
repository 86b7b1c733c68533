use Rattle.std.proofs.Common.{◌∙◌, sym}
use Rattle.std.specs.Prelude.{codes}
use Rattle.enc_model.specs.Indexes.{offers}
use Rattle.tus_request.specs.Fields.{values}
use Rattle.tus_request.specs.CheckParts.{line_shown, asking_shown}
use Rattle.tus_request.proofs.ParseLemmas.{if_ok_more}
use Rattle.tus_request.proofs.CheckLemmas.{checked_is}
use Rattle.tus_request.proofs.checks.judge.Goals as goal

pub returns : goal.returns
returns c =
    let e = checked_is (offers c.args.set.now) (line_shown c.args.line) (values c.args.fields.now)
    (values c.args.fields.now (codes "transfer-encoding"))
    (values c.args.fields.now (codes "content-length")) (asking_shown c.ask-asking.result) c.in-Some.length
    (sym c.has_coding.ensures ∙ c.if-has_coding.false) (sym c.body_length.ensures ∙ c.in-Some.is)
    c.ask-asking.ensures in
    if_ok_more c.decide.result c.decide.ensures (λ v is. is ∙ e)
