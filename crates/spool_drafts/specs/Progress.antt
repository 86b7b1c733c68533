-- The progress of a draft: the state of transcoding over an upload's bytes, and the new text.
use Rattle.std.specs.Prelude.{◌≡◌, ◌≤◌, ◌-◌, ◌%◌, ℕ, Bool, true, false, List, [], ◌++◌, length, Option, None, Some}
use Rattle.std.specs.Prelude.{Result, Ok, Err, Vec}
use Rattle.std.specs.declared.alloc.Global.{Global}
use Rattle.common.specs.declared.stop.Stop.TheVariants.{NoMemory, DiskFault}
use Rattle.spool_journal.specs.declared.TheConstants.{PAGE}
use Rattle.enc_model.specs.Indexes.{IndexSet}
use Rattle.enc_stream.specs.TranscoderState.{TranscoderState}
use Rattle.enc_stream.specs.StateBytes.{IsValidState}
use Rattle.spool_texts.specs.Drafts.{Draft, IsNothingAfter, draft_bytes, len_of, tail_on, without_block}
use Rattle.upload_rules.specs.Room.{need_of}
use Rattle.upload_rules.specs.States.{IsStateLike, state_with, transcoder_with}
use Rattle.upload_rules.specs.Store.{Upload, text_with, is_complete}
use Rattle.upload_rules.specs.Texts.{IsReading}
use Rattle.upload_rules.specs.World.{is_there}
use Rattle.upload_rules.specs.declared.errors.UploadError.{UploadError}
use Rattle.upload_rules.specs.declared.errors.UploadError.TheVariants.{Stop, Refused}
use Rattle.upload_rules.specs.declared.errors.UploadRefusal.{UploadRefusal}
use Rattle.upload_rules.specs.declared.errors.UploadRefusal.TheVariants as refusals
use Rattle.spool_drafts.specs.declared.progress.Progress.{Progress}
use Rattle.spool_drafts.specs.declared.progress.Progress.TheVariants.{Text, OutOfRoom, Complete}

-- The reserved blocks.
abbrev pub blocks_in : Progress → List ℕ
blocks_in (Text t text) = text.blocks
blocks_in _ = []

-- The block with the committed text's last bytes, until they are in memory.
abbrev pub tail_in : Progress → List ℕ
tail_in (Text t text) = tail_on text.unread
tail_in _ = []

-- That block isn't needed any more: its bytes are in memory, or no text is stored.
abbrev pub NeedsNoTail : Progress → Type 0
NeedsNoTail (Text t text) = text.unread ≡ None
NeedsNoTail _ = Unit {0}

-- Without that block: zeros take the place of its bytes, unless they are in memory.
abbrev pub without_tail : Progress → Progress
without_tail (Text t text) = Text t (record text { unread = without_block text.unread })
without_tail s = s

-- The transcoder, if bytes may come.
abbrev pub transcoder_in : Progress → Option TranscoderState
transcoder_in (Text t text) = Some t
transcoder_in (OutOfRoom t) = Some t
transcoder_in _ = None

-- Why bytes may not come, where they may not.
abbrev pub refusal_in : Progress → UploadRefusal
refusal_in Complete = refusals.TooLong
refusal_in _ = refusals.Unencodable

-- The upload is complete if the draft says so.
abbrev pub IsCompleteIn : Upload → Progress → Type 0
IsCompleteIn u Complete = is_complete u ≡ true
IsCompleteIn u _ = Unit {0}

-- TRANSCODING

-- The state after the accepted bytes and these. Without a transcoder, a character is unmappable, or the upload is
-- complete.
abbrev pub IsStateAfter : IndexSet → Upload → List ℕ → Option TranscoderState → Type 0
IsStateAfter x u bytes (Some t) = IsReading x u bytes t
IsStateAfter x u bytes None = is_complete u ≡ false → is_there (text_with x u bytes false).fault ≡ true

-- The text that a piece after these bytes adds, unless a character is unmappable.
abbrev pub AddsText : IndexSet → Upload → List ℕ → List ℕ → Option TranscoderState → List ℕ → Type 0
AddsText x u bytes piece (Some t) text =
    (text_with x u bytes false).bytes ++ text ≡ (text_with x u (bytes ++ piece) false).bytes
AddsText x u bytes piece None text = Unit {0}

-- The state after a piece that follows these bytes, and what the piece adds.
pub record ReadsOn (x : IndexSet) (u : Upload) (bytes piece : List ℕ) (next : Option TranscoderState) (text : List ℕ)
    : Type 0 where
  pub state_after : IsStateAfter x u (bytes ++ piece) next
  pub adds : AddsText x u bytes piece next text

-- If bytes may come, the encodings and the mode are those of these state bytes.
abbrev pub IsStateOf : List ℕ → Option TranscoderState → Type 0
IsStateOf state (Some t) = IsStateLike state t.transcoder
IsStateOf state None = Unit {0}

-- Bytes may come.
abbrev pub IsGrowing : Option TranscoderState → Type 0
IsGrowing (Some t) = Unit {0}
IsGrowing None = ⊥

-- The end of the text over these bytes: its state, and what the end adds.
pub record IsFinished (x : IndexSet) (u : Upload) (bytes : List ℕ) (done : Bool) (state text : List ℕ) : Type 0 where
  pub state_is : state ≡ state_with x u bytes done
  pub valid : IsValidState (transcoder_with x u bytes done)
  pub encodable : (text_with x u bytes done).fault ≡ None
  pub adds : (text_with x u bytes false).bytes ++ text ≡ (text_with x u bytes done).bytes

-- The result of the end.
abbrev pub FinishesAs : IndexSet → Upload → List ℕ → Bool → Result (List ℕ × Vec ℕ Global) UploadError → Type 0
FinishesAs x u bytes done (Ok parts) = IsFinished x u bytes done parts.0 parts.1.items
FinishesAs x u bytes done (Err (Stop NoMemory)) = Unit {0}
FinishesAs x u bytes done (Err (Stop DiskFault)) = ⊥
FinishesAs x u bytes done (Err (Refused e)) =
    (e ≡ refusals.Unencodable) × (is_there (text_with x u bytes done).fault ≡ true)

-- THE TEXT

-- Nothing was added yet to the text of this length on the listed blocks.
abbrev pub Starts : ℕ → List ℕ → Progress → Type 0
Starts len list (Text t text) = IsNothingAfter len list text
Starts len list (OutOfRoom t) = ⊥
Starts len list _ = Unit {0}

-- The new text after one of `len` bytes has n bytes, on as many blocks as they need.
pub record HoldsLen (len : ℕ) (text : Draft) (n : ℕ) : Type 0 where
  pub some : len % PAGE ≤ n
  pub listed : length text.blocks ≡ need_of len (n - len % PAGE)
  pub count : len_of text ≡ n

-- While bytes may come, either n bytes are stored after a text of `len` bytes, or the draft is short of blocks.
abbrev pub IsStored : Bool → ℕ → ℕ → Progress → Type 0
IsStored short len n (Text t text) = (short ≡ false) × HoldsLen len text n
IsStored short len n (OutOfRoom t) = short ≡ true
IsStored short len n _ = Unit {0}

-- The text that is stored has these bytes.
abbrev pub HasBytes : (ℕ → ℕ) → ℕ → List ℕ → Progress → Type 0
HasBytes current first bytes (Text t text) = draft_bytes current first text ≡ bytes
HasBytes current first bytes _ = Unit {0}
