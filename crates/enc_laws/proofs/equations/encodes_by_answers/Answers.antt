use Rattle.enc_model.specs.Encode.{encoder}
use Rattle.enc_model.proofs.Steady.{encoder_steady}
use Rattle.enc_laws.proofs.Codes.{none, more}
use Rattle.enc_laws.proofs.equations.encodes_by_answers.Goals as goal

pub returns : goal.returns
returns c = record {
  none = λ t e mode s. none (encoder t e) (encoder_steady t e) mode s;
  more = λ t e mode s c cs. more (encoder t e) (encoder_steady t e) mode c cs s;
}
