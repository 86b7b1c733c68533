use Rattle.gateway_serve.proofs.Carries.{written_stays, not_written_stays}
use Rattle.gateway_serve.proofs.Times.{moved_timed}
use Rattle.gateway_serve.proofs.links.Link.write.Goals as goal

pub returns-in-Ok-eq0-clause-stream : goal.returns-in-Ok-eq0-clause-stream
returns-in-Ok-eq0-clause-stream g c =
    written_stays g.S.Read.remaining g.S.Write.contents c.args.self.now.socket c.write.new.socket _ _ _ c.args.now
    c.write.ensures.came c.in-Ok-eq0.ensures.went c.in-Ok-eq0.ensures.latest c.in-Ok-eq0.ensures.spell
    c.in-Ok-eq0.ensures.count c.in-Ok-eq0.ensures.bytes

pub returns-in-Ok-clause-stream : goal.returns-in-Ok-clause-stream
returns-in-Ok-clause-stream g c =
    written_stays g.S.Read.remaining g.S.Write.contents c.args.self.now.socket c.write.new.socket _ _ _ c.args.now
    c.write.ensures.came c.in-Ok.ensures.went c.in-Ok.ensures.latest c.in-Ok.ensures.spell c.in-Ok.ensures.count
    c.in-Ok.ensures.bytes

pub returns-in-Err-clause-stream : goal.returns-in-Err-clause-stream
returns-in-Err-clause-stream g c =
    not_written_stays g.S.Read.remaining g.S.Write.contents c.args.self.now.socket c.write.new.socket _
    c.write.ensures.came c.in-Err.ensures.none c.in-Err.ensures.latest c.in-Err.ensures.spell c.in-Err.ensures.err

pub returns-in-Ok-eq0-clause-lost : goal.returns-in-Ok-eq0-clause-lost
returns-in-Ok-eq0-clause-lost g c = (_, c.requires, rw c.in-Ok-eq0.field-0-test at c.in-Ok-eq0.ensures.latest)

pub returns-in-Ok-eq0-clause-times : goal.returns-in-Ok-eq0-clause-times
returns-in-Ok-eq0-clause-times g c = λ times among timed. (
  moved_timed c.args.now times among c.args.self.now.socket.spell c.write.new.socket.spell
      c.in-Ok-eq0.ensures.spell timed.0,
  timed.1,
)

pub returns-in-Ok-clause-times : goal.returns-in-Ok-clause-times
returns-in-Ok-clause-times g c = λ times among timed. (
  moved_timed c.args.now times among c.args.self.now.socket.spell c.write.new.socket.spell
      c.in-Ok.ensures.spell timed.0,
  timed.1,
)
