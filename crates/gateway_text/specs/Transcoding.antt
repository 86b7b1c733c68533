-- Input as the text of an upload.
use Rattle.std.specs.Prelude.{◌≡◌, ◌⊎◌, ⊤, ℕ, true, List, Option, Some, None}
use Rattle.std.specs.Io.KnownBytes.{Appends, Consumes}
use Rattle.common.specs.declared.stop.Stop.TheVariants.{NoMemory}
use Rattle.enc_model.specs.Decode.{text}
use Rattle.enc_model.specs.Encode.{Coded, Tables}
use Rattle.enc_model.specs.Transcode.{added, added_end}
use Rattle.enc_stream.specs.TranscoderState.{TranscoderState, stepped_on}
use Rattle.tus_request.specs.Metadata as metadata
use Rattle.gateway_outside.specs.declared.faults.Fault.{Fault}
use Rattle.gateway_outside.specs.declared.faults.Fault.TheVariants.{Stop, Io, Unencodable}
use Rattle.gateway_text.specs.declared.transcoding.Conversion.{Conversion}

-- the conversion as a choice that a POST makes
abbrev pub choice_in : Conversion → metadata.Choice
choice_in c = record { from = c.from; to = c.to; mode = c.mode }

-- WHAT AN UPLOAD OF THESE BYTES, all of them, is stored as
abbrev pub stored_as : Tables → Conversion → List ℕ → Coded
stored_as t c input = text t c.from c.to c.mode input true

-- the code of all that was there to be read was written, and it has no fault, where it is known what was there
abbrev pub IsConverted : Tables → Conversion → Option (List ℕ) → Option (List ℕ) → Option (List ℕ) → Type 0
IsConverted t c None prefix held = ⊤
IsConverted t c (Some input) prefix held =
    ((stored_as t c input).fault ≡ None) × Appends prefix held (stored_as t c input).bytes

-- why it isn't: out of memory, refused by the reader or the writer, or a character has no code
abbrev pub IsTextFault : Fault → Type 0
IsTextFault f = (f ≡ Stop NoMemory) ⊎ (f ≡ Io) ⊎ ((c : Option ℕ) × (f ≡ Unencodable c))

-- ONE PIECE was read, and what it adds to the text was written
pub record CopiesOn (t : Tables) (before after : TranscoderState) (left left' prefix held : Option (List ℕ)) : Type 0
  where
    pub piece : List ℕ
    pub read : Consumes left left' piece
    pub next : after ≡ stepped_on t before piece
    pub fault : (added t before.transcoder piece).fault ≡ None
    pub wrote : Appends prefix held (added t before.transcoder piece).bytes

-- its text was written
pub record CodesOn (t : Tables) (before after : TranscoderState) (piece : List ℕ) (prefix held : Option (List ℕ)) :
    Type 0 where
  pub next : after ≡ stepped_on t before piece
  pub fault : (added t before.transcoder piece).fault ≡ None
  pub wrote : Appends prefix held (added t before.transcoder piece).bytes

-- and what the end adds
pub record EndsOn (t : Tables) (s : TranscoderState) (prefix held : Option (List ℕ)) : Type 0 where
  pub fault : (added_end t s.transcoder).fault ≡ None
  pub wrote : Appends prefix held (added_end t s.transcoder).bytes
