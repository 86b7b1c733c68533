use Rattle.enc_model.specs.Indexes.{offers}
use Rattle.tus_request.specs.Shown.{answer_shown}
use Rattle.tus_request.proofs.ParseLemmas.{if_ok_more, answer_is}
use Rattle.tus_request.proofs.heads.parse_by.Goals as goal

pub returns-clause-function : goal.returns-clause-function
returns-clause-function c =
    if_ok_more c.parse_head.result c.parse_head.ensures.grammar
    (λ a is. answer_is (offers c.args.set.now) c.args.bytes.now (answer_shown a) is)
