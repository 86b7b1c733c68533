use Rattle.std.proofs.Common.{arith}
use Rattle.gateway_serve.specs.declared.buffers.TheConstants.{PIECE}
use Rattle.gateway_serve.proofs.Carries.{read_stays, not_read_stays}
use Rattle.gateway_serve.proofs.Times.{moved_timed}
use Rattle.gateway_serve.proofs.links.Link.read.Goals as goal

pub returns-in-Ok-eq0-clause-stream : goal.returns-in-Ok-eq0-clause-stream
returns-in-Ok-eq0-clause-stream g c =
    read_stays g.S.Read.remaining g.S.Write.contents c.args.self.now.socket c.read.new.socket c.read.new.self _ _
    c.args.now c.in-Ok-eq0.ensures.came c.read.ensures.went c.in-Ok-eq0.ensures.latest c.in-Ok-eq0.ensures.spell
    c.in-Ok-eq0.ensures.count c.in-Ok-eq0.ensures.bytes

pub returns-in-Ok-clause-stream : goal.returns-in-Ok-clause-stream
returns-in-Ok-clause-stream g c =
    read_stays g.S.Read.remaining g.S.Write.contents c.args.self.now.socket c.read.new.socket c.read.new.self _ _
    c.args.now c.in-Ok.ensures.came c.read.ensures.went c.in-Ok.ensures.latest c.in-Ok.ensures.spell
    c.in-Ok.ensures.count c.in-Ok.ensures.bytes

pub returns-in-Err-clause-stream : goal.returns-in-Err-clause-stream
returns-in-Err-clause-stream g c =
    not_read_stays g.S.Read.remaining g.S.Write.contents c.args.self.now.socket c.read.new.socket _
    c.in-Err.ensures.same c.read.ensures.went c.in-Err.ensures.latest c.in-Err.ensures.spell c.in-Err.ensures.err

pub returns-in-Ok-eq0-clause-lost : goal.returns-in-Ok-eq0-clause-lost
returns-in-Ok-eq0-clause-lost g c =
    (PIECE, omega arith, rw c.in-Ok-eq0.field-0-test at c.in-Ok-eq0.ensures.latest)

pub returns-in-Ok-eq0-clause-times : goal.returns-in-Ok-eq0-clause-times
returns-in-Ok-eq0-clause-times g c = λ times among timed. (
  moved_timed c.args.now times among c.args.self.now.socket.spell c.read.new.socket.spell
      c.in-Ok-eq0.ensures.spell timed.0,
  timed.1,
)

pub returns-in-Ok-clause-times : goal.returns-in-Ok-clause-times
returns-in-Ok-clause-times g c = λ times among timed. (
  moved_timed c.args.now times among c.args.self.now.socket.spell c.read.new.socket.spell
      c.in-Ok.ensures.spell timed.0,
  timed.1,
)
