use Rattle.gateway_serve.proofs.Carries.{new_is_of}
use Rattle.gateway_serve.proofs.Times.{opened_timed}
use Rattle.gateway_serve.proofs.places.Place.open.Goals as goal

pub returns-clause-stream : goal.returns-clause-stream
returns-clause-stream g c = λ times among. (
  new_is_of g.S.Read.remaining g.S.Write.contents c.args.accepted c.new.result c.args.now c.new.ensures.stream
      c.new.ensures.latest c.new.ensures.spell c.new.ensures.none,
  (opened_timed c.args.now times among c.new.result.socket.spell c.new.ensures.spell, rw c.new.ensures.request tt),
)
