-- Why a text has no labels.
use Rattle.std.specs.Prelude.{◌≡◌, ◌⊎◌}
use Rattle.enc_stream.specs.declared.error.TranscodeError.{TranscodeError}
use Rattle.enc_stream.specs.declared.error.TranscodeError.TheVariants as errors
use Rattle.gateway_labels.specs.declared.unread.Unread.{Unread}
use Rattle.gateway_labels.specs.declared.unread.Unread.TheVariants.{Input, NoMemory, NoText}

abbrev pub transcode_reason : TranscodeError → Unread
transcode_reason errors.NoMemory = NoMemory
transcode_reason (errors.Unencodable c) = NoText
transcode_reason errors.Spent = NoText

-- nothing could be told of bytes that were read
abbrev pub IsUntold : Unread → Type 0
IsUntold unread = (unread ≡ NoMemory) ⊎ (unread ≡ NoText)

-- memory or the input refused
abbrev pub IsRefusal : Unread → Type 0
IsRefusal unread = (unread ≡ NoMemory) ⊎ (unread ≡ Input)
