use Rattle.enc_model.proofs.Transcoding.{text_added, fault_added, at_next}
use Rattle.enc_model.proofs.laws.text_grows.Goals as goal

pub returns : goal.returns
returns c = record { text = text_added; fault = fault_added; next = at_next }
