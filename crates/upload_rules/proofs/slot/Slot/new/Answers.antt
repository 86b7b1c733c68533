use Rattle.std.proofs.Common.{sym, ◌∙◌}
use Rattle.upload_rules.proofs.NewUploads.{new_text}
use Rattle.upload_rules.proofs.slot.Slot.new.Goals as goal

pub returns : goal.returns
returns c = λ x.
    let slot_is = c.first.ensures.valid x in
    assumption (c.new.ensures.items ∙ sym (new_text x c.args.fields))
