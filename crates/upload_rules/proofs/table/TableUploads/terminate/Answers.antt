use Rattle.upload_rules.proofs.Deleted.{not_there, there, deletes}
use Rattle.upload_rules.proofs.table.TableUploads.terminate.Goals as goal

pub returns-in_default-clause-answer : goal.returns-in_default-clause-answer
returns-in_default-clause-answer c = λ sure w represents. (
  not_there c.args.self.now w represents c.args.number
      ((rw c.deref.ensures.value at c.in_default.ensures.place) represents.rising),
  represents,
)

pub returns-clause-answer : goal.returns-clause-answer
returns-clause-answer c = λ sure w represents.
    let place = c.in-Some.place in
    let first = (rw c.deref.ensures.value at c.in-Some.ensures.place) represents.rising in (
      there c.args.self.now w represents c.args.number place c.remove-gone.result first c.remove-gone.ensures.value,
      deletes c.args.self.now w represents c.args.number place c.remove-gone.new.self first c.remove-gone.ensures.items,
    )
