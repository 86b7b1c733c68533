use Rattle.std.proofs.Common.{◌≡◌, ◌∙◌, false, rules, sym, true}
use Rattle.upload_rules.specs.Reading.{text_at}
use Rattle.upload_rules.specs.Store.{upload_of}
use Rattle.gateway_export.proofs.Compared.{piece_same}
use Rattle.gateway_export.proofs.comparing.compare_piece.Goals as goal

pub returns-in-Ok-true-clause-same : goal.returns-in-Ok-true-clause-same
returns-in-Ok-true-clause-same g c sure w represents files bytes holds is within =
    let known : c.in-Ok-true.field-0 ≡ true = search rules in
    piece_same bytes (text_at w.store (upload_of w.store c.args.number)) c.args.at (search rules) (search rules)
    (c.in_ok-read_at.ensures.read sure w represents (search (rules, within)))
    (sym known ∙ c.in-Ok-true.ensures.same files bytes holds is)

pub returns-in-Ok-false-clause-same : goal.returns-in-Ok-false-clause-same
returns-in-Ok-false-clause-same g c sure w represents files bytes holds is within =
    let known : c.in-Ok-false.field-0 ≡ false = search rules in
    piece_same bytes (text_at w.store (upload_of w.store c.args.number)) c.args.at (search rules) (search rules)
    (c.in_ok-read_at.ensures.read sure w represents (search (rules, within)))
    (sym known ∙ c.in-Ok-false.ensures.same files bytes holds is)
