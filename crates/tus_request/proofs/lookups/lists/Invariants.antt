use Rattle.std.proofs.Common.{◌≡◌, drop}
use Rattle.std.specs.List.{list_any}
use Rattle.tus_request.specs.Texts.{lists_word}
use Rattle.tus_request.specs.Fields.{values}
use Rattle.tus_request.proofs.lookups.lists.Given as goal

abbrev pub invariant-loop-field : goal.invariant-loop-field
invariant-loop-field l =
    list_any (lists_word l.word) (values (drop l.field-index l.fields) l.name)
    ≡ list_any (lists_word l.word) (values l.fields l.name)
