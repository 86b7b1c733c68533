-- Before the first byte.
use Rattle.std.proofs.Common.{[], sym, ap}
use Rattle.enc_model.specs.declared.Encoding.{Encoding}
use Rattle.enc_model.specs.declared.Mode.{Mode}
use Rattle.enc_model.specs.Encode.{Tables, InAscii, Coded, encoder}
use Rattle.enc_model.specs.Transcode.{IsStateAt, phase_of}
use Rattle.enc_model.proofs.Pieces.{decoded_none}
use Rattle.enc_model.proofs.Transcoding.{coded_none}
use Rattle.enc_stream.specs.TranscoderState.{start}

-- A transcoder that has read nothing has the state after no bytes.
pub start_at : (t : Tables) (from to : Encoding) (mode : Mode) → IsStateAt t (start from to mode).transcoder []
start_at t from to mode = record {
  phase = sym (ap phase_of (decoded_none t from));
  fault = rw (decoded_none t from) (ap (λ (r : Coded). r.fault) (coded_none (encoder t to) mode InAscii));
  shift = rw (decoded_none t from) (sym (ap (λ (r : Coded). r.state) (coded_none (encoder t to) mode InAscii)));
}
