-- The errors of an encoder, as errors of calls on uploads.
use Rattle.enc_encode.specs.declared.error.EncodeError.{EncodeError}
use Rattle.enc_encode.specs.declared.error.EncodeError.TheVariants as encode
use Rattle.common.specs.declared.stop.Stop.TheVariants.{NoMemory}
use Rattle.upload_rules.specs.declared.errors.UploadError.{UploadError}
use Rattle.upload_rules.specs.declared.errors.UploadError.TheVariants.{Stop, Refused}
use Rattle.upload_rules.specs.declared.errors.UploadRefusal.TheVariants.{Unencodable}

-- The error for one of an encoder.
abbrev pub encode_error : EncodeError → UploadError
encode_error encode.NoMemory = Stop NoMemory
encode_error (encode.Unencodable c) = Refused Unencodable
