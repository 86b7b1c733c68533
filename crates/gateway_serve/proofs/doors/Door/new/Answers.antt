use Rattle.gateway_serve.specs.Acceptors.{passes_of}
use Rattle.gateway_serve.proofs.NextTurn.{none_asked}
use Rattle.gateway_serve.proofs.doors.Door.new.Goals as goal

pub returns-clause-clients : goal.returns-clause-clients
returns-clause-clients g c = λ before.
    rw c.new.ensures (none_asked before (passes_of c.new-pace.result) c.new-pace.ensures.passes)
