-- The progress of a transcoder.
use Rattle.std.specs.Prelude.{length}
use Rattle.enc_model.specs.Transcode.{Phase, Before, During, Over}
use Rattle.enc_stream.specs.declared.progress.Progress.{Progress}
use Rattle.enc_stream.specs.declared.progress.Progress.TheVariants.{Holding, Decoding, Ended}

-- How far it has come, and how many bytes are held before a BOM is decided.
abbrev pub progress_of : Phase → Progress
progress_of (Before held) = Holding (length held)
progress_of (During s) = Decoding
progress_of Over = Ended
