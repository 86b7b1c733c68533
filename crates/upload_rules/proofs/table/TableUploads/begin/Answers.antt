use Rattle.upload_rules.specs.Store.{upload_of}
use Rattle.std.proofs.Common.{refl}
use Rattle.upload_rules.proofs.Makes.{begun_done}
use Rattle.upload_rules.proofs.table.TableUploads.begin.Goals as goal

pub returns-in-Ok-placed-clause-answer : goal.returns-in-Ok-placed-clause-answer
returns-in-Ok-placed-clause-answer c = λ sure w represents.
    begun_done c.args.self.now w represents (λ p. Unit {0}) (λ p. tt) c.args.number c.args.offset c.args.count
    c.args.declare
    (upload_of w.store c.args.number) c.in-Ok.append c.in-Ok-placed.number c.placed.new.drafts refl
    (c.in-Ok.ensures w represents) c.in-Ok-placed.ensures.ok
