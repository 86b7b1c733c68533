-- The text that an append adds, and the state of transcoding.
use Rattle.std.specs.Prelude.{◌≡◌, ℕ, Bool, true, false, List, [], ◌++◌, None, Result, Ok, Err, Vec}
use Rattle.std.specs.declared.alloc.Global.{Global}
use Rattle.enc_model.specs.Indexes.{IndexSet, tables}
use Rattle.enc_stream.specs.TranscoderState.{TranscoderState}
use Rattle.upload_rules.specs.Store.{Upload, text_with, is_complete}
use Rattle.upload_rules.specs.States.{IsKeptState, IsStateLike, phase_from, transcoder_with, state_with}
use Rattle.upload_rules.specs.World.{is_there}
use Rattle.upload_rules.specs.declared.errors.UploadError.{UploadError}
use Rattle.upload_rules.specs.declared.errors.UploadError.TheVariants.{Stop, Refused}
use Rattle.common.specs.declared.stop.Stop.TheVariants.{NoMemory}
use Rattle.upload_rules.specs.declared.errors.UploadRefusal.{UploadRefusal}
use Rattle.upload_rules.specs.declared.errors.UploadRefusal.TheVariants as refusals
use Rattle.upload_rules.specs.declared.new_text.NewText.{NewText}
use Rattle.upload_rules.specs.declared.new_text.NewText.TheVariants.{Growing, Unencodable, Complete}

-- The transcoder is in the state after the accepted bytes and these.
pub record IsReading (x : IndexSet) (u : Upload) (bytes : List ℕ) (t : TranscoderState) : Type 0 where
  pub unspent : t.spent ≡ false
  pub from : t.transcoder.from ≡ u.from
  pub to : t.transcoder.to ≡ u.to
  pub mode : t.transcoder.mode ≡ u.mode
  pub phase : t.transcoder.phase ≡ phase_from (tables x) u.origin u.from (u.accepted ++ bytes)
  pub shift : t.transcoder.shift ≡ (text_with x u bytes false).state
  pub encodable : (text_with x u bytes false).fault ≡ None

-- Appended to the text of the accepted bytes, these give the text with the further bytes.
abbrev pub IsRest : IndexSet → Upload → List ℕ → Bool → List ℕ → Type 0
IsRest x u bytes done text = (text_with x u [] false).bytes ++ text ≡ (text_with x u bytes done).bytes

-- The new text is what these bytes add.
abbrev pub HoldsText : IndexSet → Upload → List ℕ → NewText → Type 0
HoldsText x u bytes (Growing t text) = IsReading x u bytes t × IsRest x u bytes false text.items
HoldsText x u bytes Unencodable = is_there (text_with x u bytes false).fault ≡ true
HoldsText x u bytes Complete = is_complete u ≡ true

-- If bytes may come, the encodings and the mode are those of these state bytes.
abbrev pub IsTextStateOf : List ℕ → NewText → Type 0
IsTextStateOf state (Growing t text) = IsStateLike state t.transcoder
IsTextStateOf state Unencodable = Unit {0}
IsTextStateOf state Complete = Unit {0}

-- Bytes may come.
abbrev pub IsGrowingText : NewText → Type 0
IsGrowingText (Growing t text) = Unit {0}
IsGrowingText Unencodable = ⊥
IsGrowingText Complete = ⊥

-- Why the end is refused where bytes may not come: a character is unmappable, or the upload was complete.
abbrev pub refusal_of : NewText → UploadRefusal
refusal_of Complete = refusals.TooLong
refusal_of _ = refusals.Unencodable

-- The text with the append's bytes has no unmappable character; these are its new part and its state.
pub record IsWholeAppend (x : IndexSet) (u : Upload) (bytes : List ℕ) (done : Bool) (state text : List ℕ) : Type 0 where
  pub state_is : state ≡ state_with x u bytes done
  pub valid : IsKeptState (transcoder_with x u bytes done) done
  pub rest : IsRest x u bytes done text
  pub encodable : (text_with x u bytes done).fault ≡ None

-- The result of an append's end.
abbrev pub IsEnded : IndexSet → Upload → List ℕ → Bool → Result (List ℕ × Vec ℕ Global) UploadError → Type 0
IsEnded x u bytes done (Ok parts) = IsWholeAppend x u bytes done parts.0 parts.1.items
IsEnded x u bytes done (Err (Stop NoMemory)) = Unit {0}
IsEnded x u bytes done (Err (Refused refusals.Unencodable)) = is_there (text_with x u bytes done).fault ≡ true
IsEnded x u bytes done (Err e) = ⊥
