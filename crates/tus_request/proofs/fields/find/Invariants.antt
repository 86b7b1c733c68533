use Rattle.std.proofs.Common.{◌≡◌, drop}
use Rattle.tus_request.specs.Fields.{values}
use Rattle.tus_request.proofs.fields.find.Given as goal

abbrev pub invariant-loop-at : goal.invariant-loop-at
invariant-loop-at l = values (drop l.at l.fields) l.name ≡ values l.fields l.name
