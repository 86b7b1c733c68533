use Rattle.std.proofs.Common.{◌∙◌, ap, arith, length}
use Rattle.std.proofs.lemmas.List.Elements.{All-cons}
use Rattle.gateway_serve.specs.Drains.{HasEnded, drained_of}
use Rattle.gateway_serve.specs.Parted.{calls_of}
use Rattle.gateway_serve.specs.declared.drains.Drain.{Drain}
use Rattle.gateway_serve.proofs.drains.Drains.add.Goals as goal

pub returns-in-Err-clause-all : goal.returns-in-Err-clause-all
returns-in-Err-clause-all g c = λ all.
    let before = c.make_room.ensures.all all in
    let none = ap (λ (d : Drain g.row.S.Denot). calls_of d.stream) c.in-Err.ensures.value_returned ∙ c.new.ensures.none in (
      rw c.in-Err.ensures.items before.0,
      rw c.and-self.ensures (All-cons HasEnded c.end.result (drained_of c.make_room.new.self) (c.end.ensures.ended none)
          before.1),
      omega (arith, ap length c.in-Err.ensures.items, before.2),
    )
