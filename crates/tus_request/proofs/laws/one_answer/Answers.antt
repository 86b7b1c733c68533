use Rattle.enc_model.specs.Indexes.{offers}
use Rattle.tus_request.proofs.ParseLemmas.{answer_unique}
use Rattle.tus_request.proofs.laws.one_answer.Goals as goal

pub returns : goal.returns
returns c = λ x y a b. answer_unique (offers c.args.set.now) c.args.bytes.now x y a b
