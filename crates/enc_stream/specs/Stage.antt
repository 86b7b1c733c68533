-- The phase of a transcoder's stage.
use Rattle.std.specs.Prelude.{Bool, true, false}
use Rattle.enc_model.specs.Transcode as model
use Rattle.enc_model.specs.Transcode.{Phase}
use Rattle.enc_stream.specs.AnyDecoder.{decoding_of}
use Rattle.enc_stream.specs.Sniff.{held_bytes}
use Rattle.enc_stream.specs.declared.stage.Stage.{Stage}
use Rattle.enc_stream.specs.declared.stage.Stage.TheVariants.{Before, During, Over, Spent}

-- The phase.
abbrev pub phase_at : Stage → Phase
phase_at (Before held) = model.Before (held_bytes held)
phase_at (During decoder) = model.During (decoding_of decoder)
phase_at Over = model.Over
phase_at Spent = model.Over

-- A call was refused.
abbrev pub is_spent_at : Stage → Bool
is_spent_at Spent = true
is_spent_at _ = false

-- The stage takes no more bytes.
abbrev pub is_done_at : Stage → Bool
is_done_at Over = true
is_done_at Spent = true
is_done_at _ = false
