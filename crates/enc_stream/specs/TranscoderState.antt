-- A transcoder as its callers see it.
use Rattle.std.specs.Prelude.{ℕ, ◌<◌, ◌+◌, ◌≡◌, Bool, true, false, ◌||◌, List, [], ◌++◌, Some, None, length, Vec}
use Rattle.std.specs.Prelude.{vec_capacity}
use Rattle.enc_model.specs.declared.Encoding.{Encoding}
use Rattle.enc_model.specs.declared.Encoding.TheVariants as encodings
use Rattle.enc_model.specs.declared.Mode.{Mode}
use Rattle.enc_model.specs.Encode.{Tables, Coded, InAscii}
use Rattle.enc_model.specs.Transcode.{Transcoder, Phase, Before, During, Over, GrownByPrefix, stepped}
use Rattle.enc_stream.specs.declared.error.TranscodeError.{TranscodeError}
use Rattle.enc_stream.specs.declared.error.TranscodeError.TheVariants.{NoMemory, Unencodable, Spent}

-- The transcoder's state, and whether a refusal spent it.
pub record TranscoderState : Type 0 where
  pub transcoder : Transcoder
  pub spent : Bool

-- The end was decoded.
abbrev pub is_phase_over : Phase → Bool
is_phase_over Over = true
is_phase_over (Before held) = false
is_phase_over (During s) = false

-- Spent or finished: it takes no more bytes.
abbrev pub is_done : TranscoderState → Bool
is_done s = s.spent || is_phase_over s.transcoder.phase

-- Before the first byte.
abbrev pub start : Encoding → Encoding → Mode → TranscoderState
start from to mode = record
    { transcoder = record { from = from; to = to; mode = mode; phase = Before []; shift = InAscii }; spent = false }

-- After a piece.
abbrev pub stepped_on : Tables → TranscoderState → List ℕ → TranscoderState
stepped_on t s piece = record { transcoder = stepped t s.transcoder piece; spent = false }

-- After the end.
abbrev pub ended_state : TranscoderState → TranscoderState
ended_state s = record { transcoder = record s.transcoder { phase = Over; shift = InAscii }; spent = false }

-- After a refusal.
abbrev pub spent_by : TranscoderState → TranscoderState
spent_by s = record { transcoder = record s.transcoder { phase = Over }; spent = true }

-- The output encodings (Encoding Standard, 4.3): all but UTF-16.
abbrev pub IsOutput : Encoding → Type 0
IsOutput encodings.Utf16Be = ⊥
IsOutput encodings.Utf16Le = ⊥
IsOutput e = Unit {0}

-- The reason for a stop: no room for the code without more memory, or the code's fault.
abbrev pub StopsFor : {Z : Type 0} → TranscodeError → Coded → Vec ℕ Z → Type 0
StopsFor NoMemory to_come out = vec_capacity out < length out.items + length to_come.bytes
StopsFor (Unencodable c) to_come out = to_come.fault ≡ Some c
StopsFor Spent to_come out = ⊥

-- All of the code was appended.
pub record IsAllWritten {Z : Type 0} (code : Coded) (old new : Vec ℕ Z) : Type 0 where
  pub fault : code.fault ≡ None
  pub items : new.items ≡ old.items ++ code.bytes

-- A prefix of the code was appended; e is why no more was.
pub record IsPartWritten {Z : Type 0} (e : TranscodeError) (code : Coded) (old new : Vec ℕ Z) : Type 0 where
  pub reason : StopsFor e code old
  pub items : GrownByPrefix old.items code.bytes new.items

-- The result of a refused call: `Spent` changes nothing, the other errors spend the transcoder.
abbrev pub RefusedAs : {Z : Type 0} → TranscodeError → Coded → Vec ℕ Z → Vec ℕ Z → TranscoderState → TranscoderState
    → Type 0
RefusedAs Spent to_come old new before after = (new.items ≡ old.items) × (after ≡ before)
RefusedAs e to_come old new before after = IsPartWritten e to_come old new × (after ≡ spent_by before)
