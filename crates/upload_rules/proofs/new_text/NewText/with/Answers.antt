use Rattle.std.proofs.Common.{false}
use Rattle.enc_model.specs.Indexes.{tables}
use Rattle.enc_model.specs.Transcode.{added}
use Rattle.upload_rules.proofs.Transcoders.{further, piece_fault, stays_unencodable, code_fault}
use Rattle.upload_rules.proofs.new_text.NewText.with.Goals as goal

pub returns-in-Unencodable-clause-ok : goal.returns-in-Unencodable-clause-ok
returns-in-Unencodable-clause-ok c = λ u bytes holds.
    stays_unencodable c.args.indexes.now u bytes c.args.piece.now false
    (rw c.in-Unencodable.is at holds)

pub returns-in-Ok-clause-ok : goal.returns-in-Ok-clause-ok
returns-in-Ok-clause-ok c = λ u bytes holds.
    let x = c.args.indexes.now in
    let held = rw c.in-Growing.is at holds in
    further x u bytes c.in-Growing.transcoder held.0 c.args.piece.now c.in-Growing.text.items c.fed.new.out.items
    c.in-Ok.next held.1 c.in-Ok.ensures.no_fault c.in-Ok.ensures.next c.in-Ok.ensures.added

pub returns-in-Err-Unencodable-clause-ok : goal.returns-in-Err-Unencodable-clause-ok
returns-in-Err-Unencodable-clause-ok c = λ u bytes holds.
    let x = c.args.indexes.now in
    let held = rw c.in-Growing.is at holds in
    piece_fault x u bytes c.in-Growing.transcoder held.0 c.args.piece.now c.in-Err-Unencodable.field-0-0
    (code_fault c.in-Err-Unencodable.field-0 c.in-Err-Unencodable.field-0-0
    (added (tables x) c.in-Growing.transcoder.transcoder c.args.piece.now) _ _ c.in-Err-Unencodable.field-0-is
    c.in-Err-Unencodable.ensures.refused)
