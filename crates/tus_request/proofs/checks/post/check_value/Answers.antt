use Rattle.std.proofs.Common.{◌∙◌, ap, sym}
use Rattle.enc_model.specs.Indexes.{offers}
use Rattle.tus_request.specs.Metadata.{metadata_of}
use Rattle.tus_request.specs.Checks.{with_pairs}
use Rattle.tus_request.specs.CheckParts.{asking_shown}
use Rattle.tus_request.proofs.ParseLemmas.{if_ok_more}
use Rattle.tus_request.proofs.CheckLemmas.{no_metadata}
use Rattle.tus_request.proofs.checks.post.check_value.Goals as goal

pub returns-in-Ok : goal.returns-in-Ok
returns-in-Ok c =
    if_ok_more c.check_pairs.result c.check_pairs.ensures
    (λ v is. is ∙ ap (λ t. with_pairs (offers c.args.set.now) (asking_shown c.args.asking.now) c.args.declared t
    (metadata_of t)) c.in-Ok.ensures.cases.0)

pub returns-in-Err : goal.returns-in-Err
returns-in-Err c =
    c.refused.ensures
    ∙ ap (with_pairs (offers c.args.set.now) (asking_shown c.args.asking.now) c.args.declared c.args.value.now)
    (sym (no_metadata c.args.value.now c.in-Err.ensures.cases.0))
