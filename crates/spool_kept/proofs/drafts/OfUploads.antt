-- The drafts' uploads, whatever the disk gave: what is in their slots, and what becomes of it.
use Rattle.std.proofs.lemmas.Grind.{common_steps}
use Rattle.std.proofs.Common.{◌≡◌, inl, inr, ℕ, ◌<◌, ◌≤◌, false, List, [], Option, None, Some, IfOk}
use Rattle.std.proofs.Common.{Result, Ok, Err, get_or, length, set, refl, sym, ◌∙◌, ap, subst, arith}
use Rattle.std.proofs.lemmas.Bool.{both_ways}
use Rattle.spool_drafts.specs.Drafts.{IsAfter, declare_of, upload_number_of, offset_of, list_of}
use Rattle.spool_drafts.specs.declared.draft.SpoolDraft.{SpoolDraft}
use Rattle.spool_blocks.specs.Blocks.{Held}
use Rattle.spool_pages.specs.View.{SlotRecord}
use Rattle.spool_texts.specs.Drafts.{GivesBack}
use Rattle.upload_rules.specs.Drafts.{draft_at}
use Rattle.upload_rules.specs.Lengths.{is_length}
use Rattle.upload_rules.specs.declared.errors.UploadRefusal.{UploadRefusal}
use Rattle.upload_rules.specs.declared.records.Record.{Record}
use Rattle.spool_kept.specs.Committing.{HasSameCount, IsAfterSlot}
use Rattle.spool_catalog.specs.TakenIn.{HasRoomAt, IsTakenIn}
use Rattle.spool_kept.specs.Drafting.{DraftsFit, DraftsHold, EachDraft, IsOfUpload, lists_at, list_in}
use Rattle.spool_catalog.specs.Records.{IsInSlot}
use Rattle.spool_kept.specs.Extending.{Advances, OnlyDeclares}
use Rattle.spool_catalog.specs.Longer.{HasLonger, longer_record}
use Rattle.spool_catalog.specs.Holding.{Holding}
use Rattle.spool_catalog.specs.declared.longer.Longer.{Longer}
use Rattle.spool_kept.proofs.drafts.Drafted.{IsChanged, changed_out, fit_dropped}
use Rattle.spool_catalog.proofs.Valid.{in_use}

-- A DRAFT'S UPLOAD

-- one that begins
of_begun : (slots : List (Option SlotRecord)) (r : Record) (o : SpoolDraft) → IsInSlot slots r
    → upload_number_of o ≡ r.number → offset_of o ≡ r.accepted → IsAfter r.text_len r.state o → IsOfUpload slots o
of_begun slots r o in_slot number offset after = record {
  grown = λ s q there is. omega (arith, offset, ap (λ (p : SlotRecord). p.accepted) (in_slot.only s q there (cc)));
  after = search (arith, common_steps);
}

pub begins_in_slot : (slots : List (Option SlotRecord)) (r : Record) (declare : Option ℕ)
    (result : Result SpoolDraft UploadRefusal) → IsInSlot slots r
    → IfOk result (λ o. (upload_number_of o ≡ r.number) × (offset_of o ≡ r.accepted) × (declare_of o ≡ declare))
    → IfOk result (IsAfter r.text_len r.state) → IfOk result (IsOfUpload slots)
begins_in_slot slots r declare (Ok o) in_slot named after = of_begun slots r o in_slot named.0 named.1 after
begins_in_slot slots r declare (Err e) in_slot named after = tt

pub begins_below : (next number offset : ℕ) (declare : Option ℕ) (result : Result SpoolDraft UploadRefusal)
    → number < next → IfOk result (λ o. (upload_number_of o ≡ number) × (offset_of o ≡ offset)
    × (declare_of o ≡ declare))
    → IfOk result (λ o. upload_number_of o < next)
begins_below next number offset declare (Ok o) lt named = omega (arith, lt, named.0)
begins_below next number offset declare (Err e) lt named = tt

-- the draft went on
pub of_longer : (slots : List (Option SlotRecord)) (o o' : SpoolDraft) → upload_number_of o' ≡ upload_number_of o
    → offset_of o' ≡ offset_of o → ((len : ℕ) (state : List ℕ) → IsAfter len state o → IsAfter len state o')
    → IsOfUpload slots o → IsOfUpload slots o'
of_longer slots o o' number offset on is = record {
  grown = λ s r there at. omega (arith, is.grown s r there (at ∙ number), offset);
  after = λ s r there at same open_still. on r.text_len r.state (is.after s r there (cc) (cc) open_still);
}

-- its slot's record, with the count that the draft began at
pub after_slot : (slots : List (Option SlotRecord)) (o : SpoolDraft) (slot : ℕ) (has : HasSameCount slots o slot)
    → is_length has.used.declared has.used.accepted ≡ false → IsOfUpload slots o → IsAfterSlot slots slot o
after_slot slots o slot has open_still is r there = search (arith, common_steps)

-- an upload has another record
module _ (slots : List (Option SlotRecord)) (longer : Longer) (used : SlotRecord) (o : SpoolDraft)
    (there : get_or slots longer.slot None ≡ Some used) (is : IsOfUpload slots o) where
  inside : longer.slot < length slots
  inside = in_use slots longer.slot used there

  -- with no fewer bytes, and after which the draft is where it may still be put there
  of_changed : used.accepted ≤ longer.accepted
      → (used.number ≡ upload_number_of o → longer.accepted ≡ offset_of o
      → is_length longer.declared longer.accepted ≡ false
      → IsAfter longer.text_len longer.state o)
      → IsOfUpload (set slots longer.slot (Some (longer_record used longer))) o
  of_changed grows after = search (arith, common_steps)

  pub of_extended : Advances used longer → IsOfUpload (set slots longer.slot (Some (longer_record used longer))) o
  of_extended (inl more) = of_changed (omega (arith, more)) (λ at count open_still.
      absurd (let before = is.grown longer.slot used there at in omega (arith, before, more, count)))
  of_extended (inr all) = of_changed (omega (arith, all.0)) (λ at count open_still.
      absurd (both_ways (is_length longer.declared longer.accepted) open_still all.1))

  pub of_declared : OnlyDeclares used longer → IsOfUpload (set slots longer.slot (Some (longer_record used longer))) o
  of_declared only = of_changed (omega (arith, only.accepted)) (λ at count open_still. rw (← only.text_len) at
      (rw (← only.state) at (is.after longer.slot used there at (cc) (cc))))

-- ALL DRAFTS

pub each_changed : (P : SpoolDraft → Type 0) (old new : List (Option SpoolDraft)) (d : ℕ) (o : Option SpoolDraft)
    → IsChanged old d o new → EachDraft P old → ((a : SpoolDraft) → o ≡ Some a → P a) → EachDraft P new
each_changed P old new d o changed each own e a there = search (arith, common_steps)

-- one is spent
each_dropped : (P : SpoolDraft → Type 0) (old new : List (Option SpoolDraft)) (d : ℕ) → new ≡ set old d None
    → EachDraft P old → EachDraft P new
each_dropped P old new d is each = each_changed P old new d None (changed_out old new d is) each (λ a e. absurd cc)

-- one is spent, and the slots are as they were
pub fits_spent : (h h' : Holding) (old new : List (Option SpoolDraft)) (d : ℕ) → new ≡ set old d None
    → h'.next ≡ h.next → h'.slots ≡ h.slots → DraftsHold h'.layout h'.blocks new → DraftsFit h old → DraftsFit h' new
fits_spent h h' old new d is next slots blocks fit = record {
  blocks = blocks;
  below = search (arith, common_steps);
  uploads = each_dropped (IsOfUpload h'.slots) old new d is (λ e o at. rw (← slots) at (fit.uploads e o at));
}

-- one is spent, and its blocks are given back
fits_dropped : (h : Holding) (blocks : Held) (old new : List (Option SpoolDraft)) (d : ℕ) → new ≡ set old d None
    → DraftsFit h old → GivesBack h.blocks blocks (lists_at old d) → DraftsFit (record h { blocks = blocks }) new
fits_dropped h blocks old new d is fit gives =
    fits_spent h (record h { blocks = blocks }) old new d is refl refl
    (fit_dropped h.layout h.blocks blocks old new d is fit.blocks gives) fit

pub fits_out : {old inside : Holding} {blocks : Held} {drafts drafts' : List (Option SpoolDraft)} (number : ℕ)
    {o : SpoolDraft} → inside ≡ old → Some o ≡ draft_at drafts number → drafts' ≡ set drafts number None
    → GivesBack inside.blocks blocks (list_of o) → DraftsFit old drafts
    → DraftsFit (record inside { blocks = blocks }) drafts'
fits_out {inside = inside} {blocks = blocks} {drafts = drafts} {drafts' = drafts'} number is there after gives fit =
    fits_dropped inside blocks drafts drafts' number after (subst (λ (h : Holding). DraftsFit h drafts) (sym is) fit)
    (subst (GivesBack inside.blocks blocks) (ap list_in there) gives)

-- one is spent, and its upload is longer
pub fits_put : (h h' : Holding) (drafts : List (Option SpoolDraft)) (d : ℕ) (longer : Longer) (used : SlotRecord)
    → get_or h.slots longer.slot None ≡ Some used → Advances used longer → h'.next ≡ h.next
    → h'.slots ≡ set h.slots longer.slot (Some (longer_record used longer))
    → DraftsHold h'.layout h'.blocks (set drafts d None) → DraftsFit h drafts → DraftsFit h' (set drafts d None)
fits_put h h' drafts d longer used there more next slots blocks fit = record {
  blocks = blocks;
  below = search (arith, common_steps);
  uploads = each_dropped (IsOfUpload h'.slots) drafts (set drafts d None) d refl
      (λ e o at. rw (← slots) at (of_extended h.slots longer used o there (fit.uploads e o at) more));
}

-- an upload got its length
pub fits_declared : (h h' : Holding) (drafts : List (Option SpoolDraft)) (longer : Longer) (used : SlotRecord)
    → get_or h.slots longer.slot None ≡ Some used → OnlyDeclares used longer → HasLonger h used longer [] h'
    → DraftsFit h drafts → DraftsFit h' drafts
fits_declared h h' drafts longer used there only is fit = grind (arith, common_steps, of_declared)

-- a new upload is in the catalog
module _ (h h' : Holding) (slot : ℕ) (new : SlotRecord) (room : HasRoomAt h slot) (taken : IsTakenIn h slot new h')
    (number : new.number ≡ h.next) where
  -- the new record has no draft's number
  was_there : (o : SpoolDraft) → upload_number_of o < h.next → (s : ℕ) (r : SlotRecord)
      → get_or h'.slots s None ≡ Some r
      → r.number ≡ upload_number_of o → get_or h.slots s None ≡ Some r
  was_there o below s r e at = search (arith, common_steps)

  pub fits_created : (drafts : List (Option SpoolDraft)) → DraftsFit h drafts → DraftsFit h' drafts
  fits_created drafts fit = record {
    blocks = rw (← taken.layout) at (rw (← taken.blocks) at fit.blocks);
    below = λ d o there. omega (arith, fit.below d o there, taken.next);
    uploads = λ d o there.
        let is = fit.uploads d o there in
        let was = was_there o (fit.below d o there) in
        record {
          grown = λ s r e at. is.grown s r (was s r e at) at;
          after = λ s r e at. is.after s r (was s r e at) at;
        };
  }
