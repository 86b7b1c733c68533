use Rattle.enc_laws.proofs.Resuming.{same, bytes, fault, refused, next}
use Rattle.enc_laws.proofs.transcoding.fed_on_from_state_bytes.Goals as goal

pub returns : goal.returns
returns c = record { same = same; text = bytes; fault = fault; refused = refused; next = next }
