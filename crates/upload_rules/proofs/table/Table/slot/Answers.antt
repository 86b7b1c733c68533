use Rattle.std.proofs.Common.{ap, option_copied}
use Rattle.upload_rules.proofs.Lookups.{no_slot, slot_at}
use Rattle.upload_rules.proofs.table.Table.slot.Goals as goal

pub returns-in_err-place : goal.returns-in_err-place
returns-in_err-place c = λ w represents.
    no_slot c.args.self.now w represents c.args.number (option_copied c.from_residual.result)
    (ap option_copied c.from_residual.ensures)
    ((rw c.deref.ensures.value at c.in_err-place.ensures.place) represents.rising)

pub returns : goal.returns
returns c = λ w represents.
    slot_at c.args.self.now w represents c.args.number c.in_ok-place.place c.index.result.now
    ((rw c.deref.ensures.value at c.in_ok-place.ensures.place) represents.rising) c.index.ensures
