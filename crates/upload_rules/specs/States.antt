-- The state of transcoding over an upload's bytes, and its state bytes.
use Rattle.std.specs.Prelude.{◌≡◌, ℕ, Bool, true, false, List, [], ◌++◌, Option, Some, None}
use Rattle.enc_model.specs.declared.Encoding.{Encoding}
use Rattle.enc_model.specs.declared.Mode.{Mode}
use Rattle.enc_model.specs.Encode.{Tables, InAscii}
use Rattle.enc_model.specs.Indexes.{IndexSet, tables}
use Rattle.enc_model.specs.Decode.{decoded}
use Rattle.enc_model.specs.Transcode.{Transcoder, Phase, Over, phase_of, fed_text}
use Rattle.enc_stream.specs.StateBytes.{IsValidState, state_bytes}
use Rattle.enc_stream.specs.TranscoderState.{is_phase_over}
use Rattle.upload_rules.specs.Store.{Origin, Upload, is_complete, text_from}

-- The phase after these bytes, which come after an origin if there is one.
abbrev pub phase_from : Tables → Option Origin → Encoding → List ℕ → Phase
phase_from t None from bytes = phase_of (decoded t from bytes false)
phase_from t (Some p) from bytes = (fed_text t from p.phase bytes).phase

-- The transcoder after these bytes. `true` means that the bytes end there.
abbrev pub transcoder_from : Tables → Option Origin → Encoding → Encoding → Mode → List ℕ → Bool → Transcoder
transcoder_from t origin from to mode bytes false =
    record {
      from = from;
      to = to;
      mode = mode;
      phase = phase_from t origin from bytes;
      shift = (text_from t origin from to mode bytes false).state;
    }
transcoder_from t origin from to mode bytes true = record {
  from = from;
  to = to;
  mode = mode;
  phase = Over;
  shift = InAscii;
}

-- The transcoder after the accepted bytes and these.
abbrev pub transcoder_with : IndexSet → Upload → List ℕ → Bool → Transcoder
transcoder_with x u bytes done = transcoder_from (tables x) u.origin u.from u.to u.mode (u.accepted ++ bytes) done

-- Its state bytes.
unfoldable pub state_with : IndexSet → Upload → List ℕ → Bool → List ℕ
state_with x u bytes done = state_bytes (transcoder_with x u bytes done)

-- The state bytes of an upload. They are past the end exactly if it is complete.
abbrev pub state_of : IndexSet → Upload → List ℕ
state_of x u = state_with x u [] (is_complete u)

-- The transcoder is valid, and it is past its end only if the text was ended.
pub record IsKeptState (transcoder : Transcoder) (done : Bool) : Type 0 where
  pub valid : IsValidState transcoder
  pub takes_more : done ≡ false → is_phase_over transcoder.phase ≡ false

-- These are the state bytes of a valid transcoder.
pub record IsState (state : List ℕ) : Type 0 where
  pub transcoder : Transcoder
  pub valid : IsValidState transcoder
  pub is : state ≡ state_bytes transcoder

-- Some valid transcoder has these state bytes.
abbrev pub IsSomeState : List ℕ → Type 0
IsSomeState state = ((s : Transcoder) → IsValidState s → state_bytes s ≡ state → ⊥) → ⊥

-- The other transcoder has the encodings and the mode of these state bytes.
pub record IsStateLike (state : List ℕ) (other : Transcoder) : Type 0 where
  pub from : (s : Transcoder) → IsValidState s → state ≡ state_bytes s → other.from ≡ s.from
  pub to : (s : Transcoder) → IsValidState s → state ≡ state_bytes s → other.to ≡ s.to
  pub mode : (s : Transcoder) → IsValidState s → state ≡ state_bytes s → other.mode ≡ s.mode

-- The two states have equal encodings and modes.
pub record SameEncodings (old new : List ℕ) : Type 0 where
  pub before : Transcoder
  pub after : Transcoder
  pub before_valid : IsValidState before
  pub after_valid : IsValidState after
  pub was : old ≡ state_bytes before
  pub is : new ≡ state_bytes after
  pub from : after.from ≡ before.from
  pub to : after.to ≡ before.to
  pub mode : after.mode ≡ before.mode
