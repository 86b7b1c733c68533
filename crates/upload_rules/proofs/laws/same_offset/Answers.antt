use Rattle.upload_rules.proofs.Same.{same_upload}
use Rattle.upload_rules.proofs.laws.same_offset.Goals as goal

pub returns : goal.returns
returns c = same_upload
