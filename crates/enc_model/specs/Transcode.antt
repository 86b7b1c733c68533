-- Transcoding: its state, and the text that it gives.
use Rattle.std.specs.Prelude.{ℕ, ◌≡◌, true, false, List, [], ◌++◌, Option, Some, None}
use Rattle.enc_model.specs.declared.Encoding.{Encoding}
use Rattle.enc_model.specs.declared.Mode.{Mode}
use Rattle.enc_model.specs.Encode.{Tables, Shift, InAscii, Encoder, Coded, coded, encoder, ended_coded}
use Rattle.enc_model.specs.Decode.{Decoding, decoding, Decoded, Held, Reading, decoded, decoded_text}

-- An encoder as a sink.

-- The encoder's state, and its output.
pub record Coder : Type 0 where
  pub state : Shift
  pub out : List ℕ

-- It encoded the text.
pub record Took (f : Encoder) (mode : Mode) (old : Coder) (text : List ℕ) (new : Coder) : Type 0 where
  pub fault : (coded f mode old.state text).fault ≡ None
  pub state : new.state ≡ (coded f mode old.state text).state
  pub out : new.out ≡ old.out ++ (coded f mode old.state text).bytes

-- The reason for a refusal: out of memory, or the first unmappable code point.
abbrev pub IsReason : Option ℕ → Coded → Type 0
IsReason None r = Unit {0}
IsReason (Some c) r = r.fault ≡ Some c

-- It appended a prefix of the encoded text.
pub record Refused (f : Encoder) (mode : Mode) (old : Coder) (text : List ℕ) (why : Option ℕ) (new : Coder) : Type 0
  where
    pub prefix : List ℕ
    pub rest : List ℕ
    pub parts : (coded f mode old.state text).bytes ≡ prefix ++ rest
    pub out : new.out ≡ old.out ++ prefix
    pub reason : IsReason why (coded f mode old.state text)

-- Transcoders.

-- Before a BOM is decided, with the held bytes; decoding; or after the end.
pub data Phase : Type 0 where
  Before : List ℕ → Phase
  During : Decoding → Phase
  Over : Phase

-- The phase after these bytes.
abbrev pub phase_of : Decoded → Phase
phase_of (Held b) = Before b
phase_of (Reading r) = During r.state

-- The state of a transcoder.
pub record Transcoder : Type 0 where
  pub from : Encoding
  pub to : Encoding
  pub mode : Mode
  pub phase : Phase
  pub shift : Shift

-- The decoded code points, and the phase after them.
pub record FedText : Type 0 where
  pub text : List ℕ
  pub phase : Phase

-- The same of a result.
abbrev pub fed_of : Decoded → FedText
fed_of d = record { text = decoded_text d; phase = phase_of d }

-- The code points of a piece.
unfoldable pub fed_text : Tables → Encoding → Phase → List ℕ → FedText
fed_text t e (Before b) piece = fed_of (decoded t e (b ++ piece) false)
fed_text t e (During s) piece = let r = decoding t false s piece in record { text = r.text; phase = During r.state }
fed_text t e Over piece = record { text = []; phase = Over }

-- The text that a piece adds.
abbrev pub added : Tables → Transcoder → List ℕ → Coded
added t s piece = coded (encoder t s.to) s.mode s.shift (fed_text t s.from s.phase piece).text

-- The text of the bytes so far.
abbrev pub so_far : Tables → Transcoder → List ℕ → Coded
so_far t s b = coded (encoder t s.to) s.mode InAscii (decoded_text (decoded t s.from b false))

-- The transcoder is in the state after these bytes.
pub record IsStateAt (t : Tables) (s : Transcoder) (b : List ℕ) : Type 0 where
  pub phase : s.phase ≡ phase_of (decoded t s.from b false)
  pub fault : (so_far t s b).fault ≡ None
  pub shift : s.shift ≡ (so_far t s b).state

-- The state after another piece.
abbrev pub stepped : Tables → Transcoder → List ℕ → Transcoder
stepped t s piece = record s { phase = (fed_text t s.from s.phase piece).phase; shift = (added t s piece).state }

-- The code points at the end.
unfoldable pub fed_end : Tables → Encoding → Phase → List ℕ
fed_end t e (Before b) = decoded_text (decoded t e b true)
fed_end t e (During s) = (decoding t true s []).text
fed_end t e Over = []

-- The text that the end adds, with the encoder's final bytes.
abbrev pub added_end : Tables → Transcoder → Coded
added_end t s = ended_coded (coded (encoder t s.to) s.mode s.shift (fed_end t s.from s.phase))

-- The output grew by a prefix of what was to come.
pub record GrownByPrefix (old to_come new : List ℕ) : Type 0 where
  pub prefix : List ℕ
  pub rest : List ℕ
  pub parts : to_come ≡ prefix ++ rest
  pub out : new ≡ old ++ prefix
