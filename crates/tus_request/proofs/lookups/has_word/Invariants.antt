use Rattle.std.proofs.Common.{◌≡◌, drop}
use Rattle.std.specs.List.{list_any}
use Rattle.tus_request.specs.Texts.{any_case}
use Rattle.tus_request.specs.Fields.{values}
use Rattle.tus_request.proofs.lookups.has_word.Given as goal

abbrev pub invariant-loop-field : goal.invariant-loop-field
invariant-loop-field l =
    list_any (any_case l.word) (values (drop l.field-index l.fields) l.name)
    ≡ list_any (any_case l.word) (values l.fields l.name)
