use Rattle.std.proofs.Common.{[], ◌∙◌, arith}
use Rattle.gateway_serve.specs.Drains.{drained_of}
use Rattle.gateway_serve.specs.Joined.{places_of, ended_of}
use Rattle.gateway_serve.specs.Turns.{times_of}
use Rattle.gateway_serve.proofs.All.{new_joins}
use Rattle.gateway_serve.proofs.Times.{shows_first}
use Rattle.gateway_serve.proofs.serving.serve_on.Goals as goal

pub returns-clause-serves : goal.returns-clause-serves
returns-clause-serves g c = λ sure st represents.
    c.serve-served.ensures.serves sure c.args.gateway st []
    (record {
      represents = represents;
      images = λ known. record
          { later = omega arith; limits = λ n t ms le left among. left };
    })
    (rw c.new-server.ensures.refused (new_joins sure (places_of c.new-server.result) (ended_of c.new-server.result) st
    c.new-server.ensures.places c.new-server.ensures.ended))

pub returns-clause-times : goal.returns-clause-times
returns-clause-times g c =
    c.serve-served.ensures.times (g.T.Timer.shown c.args.clock.now) (shows_first (g.T.Timer.shown c.args.clock.now)
    (g.T.Timer.shown c.show.new.self) c.show.result c.new-server.result.watch.now (times_of c.new-server.result)
    c.show.ensures (rw c.new-server.ensures.watch c.new.ensures.read) (rw c.new-server.ensures.watch c.new.ensures.unread)
    c.new-server.ensures.times)

pub returns-clause-drains : goal.returns-clause-drains
returns-clause-drains g c =
    let drain = c.serve-served.ensures.drains in
    let closes = c.end.ensures.all drain.0 in record {
      left = closes.0;
      before = drained_of c.serve-served.new.self.drains;
      parts = closes.1;
      closed = closes.2;
      few = omega (arith, closes.3, drain.0.2);
      all = drain.0.1;
      each = c.end.ensures.each ∙ drain.1;
    }
