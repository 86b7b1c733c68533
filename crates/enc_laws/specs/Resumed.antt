-- Transcoders unpacked from state bytes.
use Rattle.std.specs.Prelude.{◌≡◌}
use Rattle.enc_model.specs.Transcode.{Transcoder}
use Rattle.enc_stream.specs.StateBytes.{IsValidState, state_bytes}

-- `pack` gave the bytes of the first, and `unpack` made the second of them.
pub record IsUnpackedFrom (s later : Transcoder) : Type 0 where
  pub packed : IsValidState s
  pub valid : IsValidState later
  pub bytes : state_bytes later ≡ state_bytes s
