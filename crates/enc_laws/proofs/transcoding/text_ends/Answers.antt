use Rattle.std.proofs.Common.{ap}
use Rattle.enc_stream.proofs.Ends.{text_ended}
use Rattle.enc_laws.proofs.transcoding.text_ends.Goals as goal

pub returns : goal.returns
returns c = record {
  text = λ t s b here. ap (λ z. z.bytes) (text_ended t s b here);
  fault = λ t s b here. ap (λ z. z.fault) (text_ended t s b here);
}
