use Rattle.gateway_up.proofs.serving.serve_all.Goals as goal

pub returns : goal.returns
returns g c =
    let e = c.serve_on-gateway.ensures in
    let result = c.serve_on-gateway.result in
    record {
      answers = g.A.Acceptor.answers c.serve_on-gateway.new.acceptor;
      door = result.door.items;
      clients = result.clients;
      times = result.times.items;
      ended = result.ended.items;
      drained = result.drained.items;
      serves = e.serves;
      counts = e.counts;
      streams = e.streams;
      reasons = e.reasons;
      drains = e.drains;
      clock = e.times;
      lets_in = rw c.requires at e.clients;
    }
