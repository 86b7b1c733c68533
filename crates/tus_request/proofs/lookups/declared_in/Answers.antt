use Rattle.std.proofs.Common.{◌∙◌, ap}
use Rattle.std.specs.Prelude.{codes}
use Rattle.tus_request.specs.Checks.{declared_in}
use Rattle.tus_request.specs.Fields.{values}
use Rattle.tus_request.proofs.lookups.declared_in.Goals as goal

pub returns : goal.returns
returns c =
    let given = values c.args.fields.now in
    c.declared_by.ensures
    ∙ (ap (λ n. declared_in (given n) (given c.from_static-other.result)) c.from_static-name.ensures
    ∙ ap (λ n. declared_in (given (codes "upload-length")) (given n)) c.from_static-other.ensures)
