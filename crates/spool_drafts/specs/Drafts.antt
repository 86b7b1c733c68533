-- Open drafts, and the patches that they represent.
use Rattle.std.specs.Prelude.{◌≡◌, ◌⊎◌, ◌≤◌, ◌<◌, ◌*◌, ◌+◌, ◌/◌, ◌^◌, ◌++◌, ℕ, Bool, true, false, List, Option, None}
use Rattle.std.specs.Prelude.{Some, [], length, drop, Result, Ok, Err}
use Rattle.common.specs.declared.limits.TheConstants.{MOST_BLOCKS}
use Rattle.spool_journal.specs.declared.TheConstants.{PAGE}
use Rattle.enc_model.specs.Indexes.{IndexSet}
use Rattle.enc_stream.specs.TranscoderState.{TranscoderState}
use Rattle.enc_stream.specs.StateBytes.{IsValidState}
use Rattle.spool_blocks.specs.Blocks.{Held}
use Rattle.spool_texts.specs.TextOn.{AllBelow}
use Rattle.upload_rules.specs.Calls.{begin_refusal_at, first_patch}
use Rattle.upload_rules.specs.declared.errors.UploadError.{UploadError}
use Rattle.upload_rules.specs.declared.errors.UploadError.TheVariants.{Stop, Refused}
use Rattle.upload_rules.specs.declared.errors.UploadRefusal.{UploadRefusal}
use Rattle.upload_rules.specs.declared.errors.UploadRefusal.TheVariants as refusals
use Rattle.upload_rules.specs.Lengths.{is_too_large, known_or, longest}
use Rattle.upload_rules.specs.Room.{blocks_of, wants, need}
use Rattle.upload_rules.specs.States.{SameEncodings, state_with, transcoder_with}
use Rattle.upload_rules.specs.Store.{Upload, text_of, accepted_count}
use Rattle.upload_rules.specs.World.{Patch, is_there, patch_text}
use Rattle.spool_drafts.specs.Effect.{RunsShort}
use Rattle.spool_drafts.specs.Progress.{IsCompleteIn, IsStateAfter, IsStateOf, IsGrowing, IsStored, HasBytes, blocks_in}
use Rattle.spool_drafts.specs.Progress.{tail_in, NeedsNoTail, transcoder_in, without_tail}
use Rattle.spool_drafts.specs.declared.draft.DraftEnd.{DraftEnd}
use Rattle.spool_drafts.specs.declared.draft.SpoolDraft.{SpoolDraft}

-- The upload's number.
abbrev pub upload_number_of : SpoolDraft → ℕ
upload_number_of d = d.number

-- The upload's offset when the draft began.
abbrev pub offset_of : SpoolDraft → ℕ
offset_of d = d.offset

-- How many bytes were appended since.
abbrev pub appended_count : SpoolDraft → ℕ
appended_count d = d.came

-- The length that the draft declares.
abbrev pub declare_of : SpoolDraft → Option ℕ
declare_of d = d.declare

-- The reserved blocks. The first has the ordinal of the committed text's unfinished block.
abbrev pub list_of : SpoolDraft → List ℕ
list_of d = blocks_in d.progress

-- The block with the committed text's last bytes, if it isn't full. None once the draft forgot it or has the bytes, or
-- where it stores no text.
abbrev pub tail_of : SpoolDraft → List ℕ
tail_of d = tail_in d.progress

-- That block isn't forgotten: it is as it was, or it isn't needed any more.
abbrev pub PreservesTail : SpoolDraft → SpoolDraft → Type 0
PreservesTail old new = (tail_of new ≡ tail_of old) ⊎ ((tail_of new ≡ []) × NeedsNoTail new.progress)

-- The draft without that block, and else as it was.
abbrev pub forgetting_tail : SpoolDraft → SpoolDraft
forgetting_tail d = record d { progress = without_tail d.progress }

-- The length of the committed text.
abbrev pub committed_len_of : SpoolDraft → ℕ
committed_len_of d = d.committed_len

-- The transcoder, if bytes may come.
abbrev pub transcoder_of : SpoolDraft → Option TranscoderState
transcoder_of d = transcoder_in d.progress

-- Properties that hold whatever the disk answers.

-- The committed text's unfinished block, if the draft needs it, is one of this many.
pub record IsTailPlaced (blocks : ℕ) (d : SpoolDraft) : Type 0 where
  pub below : AllBelow blocks (tail_of d)
  pub few : committed_len_of d ≤ PAGE * MOST_BLOCKS

-- The draft began after a text of this length with these state bytes. If bytes may still come, the encodings and the
-- mode are unchanged, and the offset isn't the greatest number.
pub record IsAfter (len : ℕ) (state : List ℕ) (d : SpoolDraft) : Type 0 where
  pub committed : committed_len_of d ≡ len
  pub goes_on : IsStateOf state (transcoder_of d)
  pub room : IsGrowing (transcoder_of d) → offset_of d + 1 < 2 ^ 64

-- The end extends that text: on these blocks, or without blocks if nothing was added, and with the same encodings.
pub record EndsAfter (len : ℕ) (state list : List ℕ) (e : DraftEnd) : Type 0 where
  pub same : SameEncodings state e.state
  pub nothing : length list ≡ 0 → e.text_len ≡ len
  pub blocks : 0 < length list → blocks_of e.text_len ≡ len / PAGE + length list

-- The draft of a patch.

-- The patch's text after the full blocks of the committed one.
abbrev pub open_text : IndexSet → Patch → Bool → List ℕ
open_text x p done = drop (PAGE * (length (text_of x p.began) / PAGE)) (patch_text x p done).bytes

-- The draft represents the patch, whatever the disk has.
pub record Holds (x : IndexSet) (p : Patch) (d : SpoolDraft) : Type 0 where
  pub number : upload_number_of d ≡ p.number
  pub offset : offset_of d ≡ accepted_count p.began
  pub came : appended_count d ≡ length p.body
  pub held : length p.body ≤ p.count
  pub declare : declare_of d ≡ p.declare
  pub small : is_too_large p.declare ≡ false
  pub within : accepted_count p.began + p.count ≤ longest (known_or p.began.declared p.declare)
  pub fits : longest (known_or p.began.declared p.declare) < 2 ^ 64
  pub committed : committed_len_of d ≡ length (text_of x p.began)
  pub state_after : IsStateAfter x p.began p.body (transcoder_of d)
  pub complete : IsCompleteIn p.began d.progress
  pub needs : length (list_of d) ≡ need x p false
  pub stored : IsStored p.short (committed_len_of d) (length (open_text x p false)) d.progress

-- If the draft stores its text, the disk has the patch's text after the full blocks of the committed one.
abbrev pub Carries : IndexSet → (ℕ → ℕ) → ℕ → Patch → SpoolDraft → Type 0
Carries x current first p d = HasBytes current first (open_text x p false) d.progress

-- A draft of the upload as it is, or the refusal of the rules.
abbrev pub IsBegun : IndexSet → ℕ → ℕ → ℕ → Option ℕ → Upload → Result SpoolDraft UploadRefusal → Type 0
IsBegun x n offset count declare u (Ok d) =
    (begin_refusal_at offset count declare (Some u) ≡ None) × Holds x (first_patch n count declare u) d
IsBegun x n offset count declare u (Err e) = begin_refusal_at offset count declare (Some u) ≡ Some e

-- The patch with another piece.
abbrev pub with_piece : Patch → List ℕ → Patch
with_piece p piece = record p { body = p.body ++ piece }

-- The patch, short of room.
abbrev pub shortened : Patch → Patch
shortened p = record p { short = true }

-- The draft represents the longer patch, or it ran short of blocks for it.
abbrev pub IsLonger : IndexSet → Patch → SpoolDraft → SpoolDraft → Held → Held → Type 0
IsLonger x q old new blocks blocks' =
    Holds x q new ⊎ (Holds x (shortened q) new × RunsShort blocks blocks' (list_of old) (wants x q false))

-- The draft has the whole text after the full blocks of the committed one.
pub record IsWholeDraft (x : IndexSet) (p : Patch) (done : Bool) (d : SpoolDraft) (e : DraftEnd) : Type 0 where
  pub state_is : e.state ≡ state_with x p.began p.body done
  pub valid : IsValidState (transcoder_with x p.began p.body done)
  pub encodable : (patch_text x p done).fault ≡ None
  pub roomy : p.short ≡ false
  pub listed : length (list_of d) ≡ wants x p done
  pub len : e.text_len ≡ length (patch_text x p done).bytes

-- The result of a text's end, for an upload that wasn't complete.
abbrev pub EndsAs : IndexSet → Patch → Bool → SpoolDraft → SpoolDraft → Held → Held → Result DraftEnd UploadError
    → Type 0
EndsAs x p done old new blocks blocks' (Ok e) = IsWholeDraft x p done new e
EndsAs x p done old new blocks blocks' (Err (Stop stop)) = Unit {0}
EndsAs x p done old new blocks blocks' (Err (Refused refusals.Unencodable)) =
    is_there (patch_text x p done).fault ≡ true
EndsAs x p done old new blocks blocks' (Err (Refused refusals.Full)) =
    ((patch_text x p done).fault ≡ None) × ((p.short ≡ true) ⊎ RunsShort blocks blocks' (list_of old) (wants x p done))
EndsAs x p done old new blocks blocks' (Err (Refused e)) = ⊥
