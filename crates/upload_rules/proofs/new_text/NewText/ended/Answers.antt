use Rattle.upload_rules.proofs.Transcoders.{unencodable_ended}
use Rattle.upload_rules.proofs.new_text.NewText.ended.Goals as goal

pub returns-in-Unencodable-clause-ended : goal.returns-in-Unencodable-clause-ended
returns-in-Unencodable-clause-ended c u bytes holds still =
    unencodable_ended c.args.indexes.now u bytes c.args.completes (rw c.in-Unencodable.is at holds)
