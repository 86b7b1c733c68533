use Rattle.upload_rules.proofs.Worlds.{drops}
use Rattle.upload_rules.proofs.table.TableUploads.drop_open.Goals as goal

pub returns-clause-represents : goal.returns-clause-represents
returns-clause-represents c =
    λ sure w represents. drops c.args.self.now w represents c.args.draft.number c.taken.new.drafts c.taken.ensures.after
