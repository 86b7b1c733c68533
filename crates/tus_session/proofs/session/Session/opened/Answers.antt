use Rattle.std.proofs.Common.{◌<◌, length, arith, ◌∙◌, sym}
use Rattle.tus_session.proofs.InPlace.{opened, not_below, is_open, not_open}
use Rattle.tus_session.proofs.session.Session.opened.Goals as goal
use Rattle.tus_session.proofs.session.Session.opened.Goals.{then-conn-len-via-then-conn-len}
use Rattle.tus_session.proofs.session.Session.opened.Goals.{then-conn-len-via-else-conn-len+then-is_some}

pub returns-then-conn-len-clause-answer : goal.returns-then-conn-len-clause-answer
returns-then-conn-len-clause-answer g c sure store st represents = elim c.then-conn-len.branch [
  | then-conn-len-via-then-conn-len w ↦
      not_below g.U.Uploads sure _ store st represents c.args.conn
      (omega (arith, w.if-conn-len.true, c.len.ensures, c.args.self.now.links.ok.0))
  | then-conn-len-via-else-conn-len+then-is_some w ↦
      let lt : c.args.conn < length c.args.self.now.links.items =
      omega (arith, w.if-conn-len.false, c.len.ensures, c.args.self.now.links.ok.0) in
      is_open g.U.Uploads sure _ store st represents c.args.conn w.index.result.now lt w.index.ensures
      (sym w.is_some.ensures ∙ w.if-is_some.true)
]

pub returns-clause-answer : goal.returns-clause-answer
returns-clause-answer g c sure store st represents =
    let lt : c.args.conn < length c.args.self.now.links.items =
    omega (arith, c.if-conn-len.false, c.len.ensures, c.args.self.now.links.ok.0) in
    let none = not_open g.U.Uploads sure c.args.self.now.links.items store st represents c.args.conn
    c.index.result.now lt
    c.index.ensures (sym c.is_some.ensures ∙ c.if-is_some.false) in
    rw c.put_back.ensures (opened g.U.Uploads sure c.args.self.now.links.items store st represents c.args.conn _ lt none
    c.new.ensures)
