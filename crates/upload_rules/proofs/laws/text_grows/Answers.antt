use Rattle.upload_rules.proofs.Longer.{text_at_start, stays_without_code}
use Rattle.upload_rules.proofs.laws.text_grows.Goals as goal

pub returns-clause-prefix : goal.returns-clause-prefix
returns-clause-prefix c = text_at_start

pub returns-clause-fault : goal.returns-clause-fault
returns-clause-fault c = stays_without_code
