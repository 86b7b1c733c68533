use Rattle.std.proofs.Common.{ap}
use Rattle.enc_stream.specs.TranscoderState.{TranscoderState}
use Rattle.gateway_labels.proofs.Trying.{measured_none}
use Rattle.gateway_labels.proofs.trial.Trial.new.Goals as goal

pub returns-clause-nothing : goal.returns-clause-nothing
returns-clause-nothing c t = record {
  going = ap (λ (s : TranscoderState). s.spent) c.new.ensures.value;
  to = ap (λ (s : TranscoderState). s.transcoder.to) c.new.ensures.value;
  mode = ap (λ (s : TranscoderState). s.transcoder.mode) c.new.ensures.value;
  at = c.new.ensures.nothing_read t;
  measured = measured_none t c.new.result.transcoder c.new-2.result c.new-2.ensures;
}
