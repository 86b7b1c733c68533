-- The errors of a transcoder.
use Rattle.enc_encode.specs.declared.error.EncodeError.{EncodeError}
use Rattle.enc_encode.specs.declared.error.EncodeError.TheVariants as encode
use Rattle.enc_stream.specs.declared.error.TranscodeError.{TranscodeError}
use Rattle.enc_stream.specs.declared.error.TranscodeError.TheVariants.{NoMemory, Unencodable}

-- The transcoder's error for one of its encoder.
abbrev pub error_of : EncodeError → TranscodeError
error_of encode.NoMemory = NoMemory
error_of (encode.Unencodable c) = Unencodable c
