use Rattle.enc_model.proofs.sink.Sink.text.Given as goal

abbrev pub invariant-loop-c : goal.invariant-loop-c
invariant-loop-c g l = g.Self.Sink.takes l.fn.self l.yielded l.self
