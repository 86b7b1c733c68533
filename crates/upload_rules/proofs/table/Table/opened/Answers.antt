use Rattle.std.proofs.Common.{refl}
use Rattle.std.proofs.lemmas.Result.{err_from_is_err_and}
use Rattle.upload_rules.specs.Store.{upload_of}
use Rattle.upload_rules.proofs.Openings.{opens, refuses}
use Rattle.upload_rules.proofs.table.Table.opened.Goals as goal

pub returns-in_err-admits : goal.returns-in_err-admits
returns-in_err-admits c = λ w represents.
    let u = upload_of w.store c.args.number in
    let e = err_from_is_err_and c.from_residual.result c.from_residual.ensures.1 in
    rw (e.1, e.2) (refuses w c.args.number c.args.offset c.args.count c.args.declare u c.in-Some.slot.now
    c.in_err-admits.field-0.0
    (c.in-Some.ensures w represents) c.in_err-admits.ensures.rules)

pub returns : goal.returns
returns c = λ w represents.
    let room = c.in_ok-admits.ensures.room refl in
    opens c.args.self.now w represents c.args.number c.args.offset c.args.count c.args.declare
    (upload_of w.store c.args.number) c.in-Some.slot.now c.after.result refl (c.in-Some.ensures w represents)
    room.0
    room.1 room.2 c.in_ok-admits.ensures.rules c.after.ensures.holds
