-- What a deletion makes of a view, and of the catalog.
use Rattle.std.specs.Prelude.{◌≡◌, ◌≢◌, ℕ, List, [], Option, None, Some}
use Rattle.enc_model.specs.Indexes.{IndexSet}
use Rattle.spool_blocks.specs.Blocks.{Row}
use Rattle.spool_drafts.specs.Drafts.{Holds, IsAfter, IsTailPlaced, appended_count, committed_len_of, declare_of}
use Rattle.spool_drafts.specs.Drafts.{forgetting_tail, list_of, upload_number_of, offset_of, tail_of, transcoder_of}
use Rattle.spool_drafts.specs.declared.draft.SpoolDraft.{SpoolDraft}
use Rattle.spool_pages.specs.Changes.{with_slot}
use Rattle.spool_pages.specs.View.{View}
use Rattle.upload_rules.specs.Drafts.{draft_at}
use Rattle.upload_rules.specs.World.{Patch}

-- the slot is free, with other rows
abbrev pub deleted_view : View → ℕ → List Row → View
deleted_view v slot rows = record (with_slot v slot None) { rows = rows }

-- THE DRAFTS

-- the draft is as it was, but that a draft of this upload has none of its blocks any more
pub record ForgetsTail (number : ℕ) (old new : SpoolDraft) : Type 0 where
  pub gone : upload_number_of old ≡ number → tail_of new ≡ []
  pub forgets : upload_number_of old ≡ number → new ≡ forgetting_tail old
  pub others : upload_number_of old ≢ number → new ≡ old
  pub same_number : upload_number_of new ≡ upload_number_of old
  pub same_offset : offset_of new ≡ offset_of old
  pub same_count : appended_count new ≡ appended_count old
  pub same_declare : declare_of new ≡ declare_of old
  pub same_text : committed_len_of new ≡ committed_len_of old
  pub same_list : list_of new ≡ list_of old
  pub same_state : transcoder_of new ≡ transcoder_of old
  pub placed : (n : ℕ) → IsTailPlaced n old → IsTailPlaced n new
  pub after : (len : ℕ) (state : List ℕ) → IsAfter len state old → IsAfter len state new
  pub holds : (x : IndexSet) (p : Patch) → Holds x p old → Holds x p new

abbrev pub ForgetsOf : ℕ → Option SpoolDraft → Option SpoolDraft → Type 0
ForgetsOf number None None = Unit {0}
ForgetsOf number (Some old) (Some new) = ForgetsTail number old new
ForgetsOf number _ _ = ⊥

abbrev pub EachForgets : ℕ → List (Option SpoolDraft) → List (Option SpoolDraft) → Type 0
EachForgets number old new = (d : ℕ) → ForgetsOf number (draft_at old d) (draft_at new d)
