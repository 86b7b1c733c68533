-- The 32 state bytes of a transcoder. A spool stores them for each upload; the format is the gateway's own.
--
-- Bytes 0, 1, 2: the numbers of the source encoding, of the output encoding and of the mode. Byte 3: the phase. From
-- byte 4 on, the state of the phase: the count of held bytes and the bytes, or the encoding in effect and its decoder's
-- state. Byte 16: the encoder's state. All others are 0.
use Rattle.std.specs.Prelude.{ℕ, zero, suc, ◌/◌, ◌%◌, ◌≤◌, ◌<◌, ◌≡◌, ◌⊎◌, Bool, true, false, List, [], ◌∷◌, ◌++◌}
use Rattle.std.specs.Prelude.{Option, Some, None, length, if◌then◌else◌}
use Rattle.enc_model.specs.declared.Encoding.{Encoding}
use Rattle.enc_model.specs.declared.Encoding.TheVariants.{Utf8, Utf16Be, Utf16Le, ShiftJis, EucJp, Iso2022Jp, Ibm866}
use Rattle.enc_model.specs.declared.Encoding.TheVariants.{Iso8859X2, Iso8859X5, Iso8859X15, Koi8R, Macintosh}
use Rattle.enc_model.specs.declared.Encoding.TheVariants.{Windows1250, Windows1251, Windows1252, Windows1253}
use Rattle.enc_model.specs.declared.Encoding.TheVariants.{Windows1254, Windows1255, Windows1256, Windows1257}
use Rattle.enc_model.specs.declared.Encoding.TheVariants.{Windows1258}
use Rattle.enc_model.specs.declared.Mode.{Mode}
use Rattle.enc_model.specs.declared.Mode.TheVariants.{Html, Fatal}
use Rattle.enc_model.specs.declared.Charset.{Charset}
use Rattle.enc_model.specs.declared.Charset.TheVariants.{Ascii, Roman, Katakana, Lead}
use Rattle.enc_model.specs.declared.Place.{Place}
use Rattle.enc_model.specs.declared.Place.TheVariants.{In, Trail, EscapeStart, Escape}
use Rattle.enc_model.specs.Japanese.{introducer_byte}
use Rattle.enc_model.specs.Encode.{Shift, InAscii, InRoman, InJis}
use Rattle.enc_model.specs.Decode.{Decoding, OfUtf8, OfUtf16, OfShiftJis, OfEucJp, OfIso2022, OfSingle, undecided}
use Rattle.enc_model.specs.Transcode.{Transcoder, Phase, Before, During, Over}
use Rattle.enc_unicode.specs.Utf8State.{IsUnfinishedState}
use Rattle.lane_kernels.specs.Units.{IsCarried}
use Rattle.enc_legacy.specs.ShiftJis.{IsShiftJisState}
use Rattle.enc_legacy.specs.EucJpState.{IsEucJpState}
use Rattle.enc_legacy.specs.Iso2022State.{IsIso2022State}
use Rattle.enc_stream.specs.TranscoderState.{TranscoderState, IsOutput}

-- Numbers.

abbrev pub encoding_number : Encoding → ℕ
encoding_number Utf8 = 0
encoding_number Utf16Be = 1
encoding_number Utf16Le = 2
encoding_number ShiftJis = 3
encoding_number EucJp = 4
encoding_number Iso2022Jp = 5
encoding_number Ibm866 = 6
encoding_number Iso8859X2 = 7
encoding_number Iso8859X5 = 8
encoding_number Iso8859X15 = 9
encoding_number Koi8R = 10
encoding_number Macintosh = 11
encoding_number Windows1250 = 12
encoding_number Windows1251 = 13
encoding_number Windows1252 = 14
encoding_number Windows1253 = 15
encoding_number Windows1254 = 16
encoding_number Windows1255 = 17
encoding_number Windows1256 = 18
encoding_number Windows1257 = 19
encoding_number Windows1258 = 20

abbrev pub mode_number : Mode → ℕ
mode_number Html = 0
mode_number Fatal = 1

-- The number of the encoder's state, which only ISO-2022-JP changes.
abbrev pub shift_number : Shift → ℕ
shift_number InAscii = 0
shift_number InRoman = 1
shift_number InJis = 2

-- The number of the phase: before a BOM is decided, decoding, and after the end.
abbrev pub phase_number : Phase → ℕ
phase_number (Before held) = 0
phase_number (During s) = 1
phase_number Over = 2

-- The states of decoders.

-- The count of bytes, and the bytes.
abbrev pub counted : List ℕ → List ℕ
counted bytes = length bytes ∷ bytes

-- 1 for an odd byte plus 2 for a lead surrogate; the byte; the surrogate, its high byte first.
abbrev pub utf16_bytes : Option ℕ → Option ℕ → List ℕ
utf16_bytes None None = 0 ∷ []
utf16_bytes (Some byte) None = 1 ∷ byte ∷ []
utf16_bytes None (Some lead) = 2 ∷ 0 ∷ lead / 256 ∷ lead % 256 ∷ []
utf16_bytes (Some byte) (Some lead) = 3 ∷ byte ∷ lead / 256 ∷ lead % 256 ∷ []

-- 1 if the flag is set.
abbrev pub flag_number : Bool → ℕ
flag_number false = 0
flag_number true = 1

-- The number of the character set.
abbrev pub charset_number : Charset → ℕ
charset_number Ascii = 0
charset_number Roman = 1
charset_number Katakana = 2
charset_number Lead = 3

-- The number of a place of the ISO-2022-JP decoder.
abbrev pub place_number : Place → ℕ
place_number (In set) = charset_number set
place_number (Trail lead) = 4
place_number EscapeStart = 5
place_number (Escape lead) = 6

-- The lead byte at that place, or 0.
abbrev pub place_lead : Place → ℕ
place_lead (In set) = 0
place_lead (Trail lead) = lead
place_lead EscapeStart = 0
place_lead (Escape lead) = introducer_byte lead

-- The state of a decoder, without zeros at the end.
abbrev pub decoder_bytes : Decoding → List ℕ
decoder_bytes (OfUtf8 s) = counted s.partial
decoder_bytes (OfUtf16 big s) = utf16_bytes s.byte s.lead
decoder_bytes (OfShiftJis lead) = lead ∷ []
decoder_bytes (OfEucJp s) = s.lead ∷ flag_number s.flag ∷ []
decoder_bytes (OfIso2022 s) =
    place_number s.place ∷ charset_number s.output ∷ place_lead s.place ∷ flag_number s.flag ∷ []
decoder_bytes (OfSingle e s) = []

-- The encoding that a decoder decodes.
abbrev pub decoded_encoding : Decoding → Encoding
decoded_encoding (OfUtf8 s) = Utf8
decoded_encoding (OfUtf16 big s) = if big then Utf16Be else Utf16Le
decoded_encoding (OfShiftJis lead) = ShiftJis
decoded_encoding (OfEucJp s) = EucJp
decoded_encoding (OfIso2022 s) = Iso2022Jp
decoded_encoding (OfSingle e s) = e

-- The bytes.

-- The state of a phase.
abbrev pub phase_bytes : Phase → List ℕ
phase_bytes (Before held) = counted held
phase_bytes (During s) = encoding_number (decoded_encoding s) ∷ decoder_bytes s
phase_bytes Over = []

-- The bytes, filled with zeros up to n.
abbrev pub padded : ℕ → List ℕ → List ℕ
padded zero bytes = []
padded (suc n) [] = 0 ∷ padded n []
padded (suc n) (b ∷ bytes) = b ∷ padded n bytes

-- The state bytes of a transcoder.
abbrev pub state_bytes : Transcoder → List ℕ
state_bytes s =
    encoding_number s.from ∷ encoding_number s.to ∷ mode_number s.mode ∷ phase_number s.phase
    ∷ (padded 12 (phase_bytes s.phase) ++ padded 16 (shift_number s.shift ∷ []))

-- The valid states: those that a transcoder can be in.

-- The encoding in effect is the one of the label, or the one of a BOM.
abbrev pub IsInEffect : Encoding → Encoding → Type 0
IsInEffect from e = (e ≡ from) ⊎ ((e ≡ Utf8) ⊎ ((e ≡ Utf16Be) ⊎ (e ≡ Utf16Le)))

abbrev pub IsSingleByteEncoding : Encoding → Type 0
IsSingleByteEncoding Utf8 = ⊥
IsSingleByteEncoding Utf16Be = ⊥
IsSingleByteEncoding Utf16Le = ⊥
IsSingleByteEncoding ShiftJis = ⊥
IsSingleByteEncoding EucJp = ⊥
IsSingleByteEncoding Iso2022Jp = ⊥
IsSingleByteEncoding _ = Unit {0}

-- A decoder without a state belongs to a single-byte encoding.
abbrev pub IsOwn : Decoding → Type 0
IsOwn (OfSingle e s) = IsSingleByteEncoding e
IsOwn _ = Unit {0}

-- The held bytes may become a BOM, and the decoder is the one of the encoding in effect.
abbrev pub IsPhaseOf : Encoding → Phase → Type 0
IsPhaseOf from (Before held) = undecided held ≡ true
IsPhaseOf from (During s) = IsOwn s × IsInEffect from (decoded_encoding s)
IsPhaseOf from Over = Unit {0}

-- The encoder leaves ASCII only while text is encoded in ISO-2022-JP.
abbrev pub IsShiftIn : Phase → Encoding → Shift → Type 0
IsShiftIn (Before held) to shift = shift ≡ InAscii
IsShiftIn (During s) to shift = (to ≡ Iso2022Jp) ⊎ (shift ≡ InAscii)
IsShiftIn Over to shift = shift ≡ InAscii

-- The parts of the transcoder fit one another.
pub record IsFitting (s : Transcoder) : Type 0 where
  pub output : IsOutput s.to
  pub phase : IsPhaseOf s.from s.phase
  pub shift : IsShiftIn s.phase s.to s.shift

-- The odd byte is a byte.
abbrev pub IsByte : Option ℕ → Type 0
IsByte None = Unit {0}
IsByte (Some b) = b < 256

-- The decoder can be in this state.
abbrev pub IsReached : Decoding → Type 0
IsReached (OfUtf8 s) = IsUnfinishedState s × (length s.partial ≤ 3)
IsReached (OfUtf16 big s) = IsByte s.byte × IsCarried s.lead
IsReached (OfShiftJis lead) = IsShiftJisState lead
IsReached (OfEucJp s) = IsEucJpState s.lead s.flag
IsReached (OfIso2022 s) = IsIso2022State s.place s.output s.flag
IsReached (OfSingle e s) = Unit {0}

-- The decoder of the phase can be in its state.
abbrev pub IsReachedIn : Phase → Type 0
IsReachedIn (During s) = IsReached s
IsReachedIn _ = Unit {0}

-- The states that `pack` encodes and `unpack` decodes.
pub record IsValidState (s : Transcoder) : Type 0 where
  pub fitting : IsFitting s
  pub reached : IsReachedIn s.phase

-- A transcoder that isn't spent.
abbrev pub transcoder_state : Transcoder → TranscoderState
transcoder_state s = record { transcoder = s; spent = false }
