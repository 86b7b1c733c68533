-- A draft whose text has ended: why it isn't put after its upload's, and that it may be.
use Rattle.std.proofs.lemmas.Grind.{common_steps}
use Rattle.std.proofs.Common.{Result, Err, IfOk, ◌≡◌, inl, inr, ℕ, ◌≤◌, ◌+◌, ◌-◌, ◌/◌, ◌^◌, Bool, true, false}
use Rattle.std.proofs.Common.{List}
use Rattle.std.proofs.Common.{Option, None, Some, length, get_or, set, min, refl, sym, ◌∙◌, ap, subst, arith}
use Rattle.spool_journal.specs.declared.TheConstants.{PAGE}
use Rattle.spool_blocks.specs.Blocks.{Held}
use Rattle.spool_disk.specs.declared.disk.Disk.{Ghosts}
use Rattle.spool_disk.specs.Views.{Lasts}
use Rattle.spool_disk.proofs.Firm.{lasts_more}
use Rattle.spool_journal.specs.Image.{journal_pages, text_page}
use Rattle.spool_drafts.specs.Drafts.{EndsAs, EndsAfter, Holds, Carries, IsTailPlaced, IsWholeDraft}
use Rattle.spool_drafts.specs.Drafts.{committed_len_of, list_of}
use Rattle.spool_drafts.specs.Drafts.{PreservesTail, offset_of, appended_count, open_text}
use Rattle.spool_drafts.specs.Effect.{Effect, RunsShort}
use Rattle.spool_drafts.specs.declared.draft.DraftEnd.{DraftEnd}
use Rattle.spool_drafts.specs.declared.draft.SpoolDraft.{SpoolDraft}
use Rattle.spool_pages.proofs.Resting.{rests_aside}
use Rattle.spool_pages.specs.Rests.{Unowned}
use Rattle.spool_pages.specs.View.{SlotRecord}
use Rattle.spool_texts.specs.Drafts.{IsReserved, bytes_with}
use Rattle.upload_rules.specs.Answers.{Answers}
use Rattle.upload_rules.specs.Calls.{commit_refusal}
use Rattle.upload_rules.specs.Lengths.{is_length, known_or, longest}
use Rattle.upload_rules.specs.Room.{is_short, wants}
use Rattle.upload_rules.specs.Store.{find, is_complete, patched, with_length}
use Rattle.upload_rules.specs.World.{Patch, World, completes, reached}
use Rattle.upload_rules.proofs.Commits.{complete_patched}
use Rattle.upload_rules.specs.declared.errors.UploadError.{UploadError}
use Rattle.upload_rules.specs.declared.errors.UploadError.TheVariants.{Stop, Refused}
use Rattle.common.specs.declared.stop.Stop.TheVariants.{NoMemory, DiskFault}
use Rattle.upload_rules.specs.declared.errors.UploadRefusal.TheVariants as refusals
use Rattle.spool_kept.specs.Committing.{HasSameCount, IsCommit, IsFound}
use Rattle.spool_kept.specs.Drafting.{DraftsHold, DraftRepresents, OnlyReserves}
use Rattle.spool_kept.specs.Extending.{IsPending}
use Rattle.spool_catalog.specs.Longer.{MayExtend}
use Rattle.spool_catalog.specs.Holding.{Holding}
use Rattle.spool_catalog.specs.Shows.{ImageShows, IsRecordOf}
use Rattle.spool_kept.specs.Stored.{Stored}
use Rattle.spool_kept.specs.declared.finding.Found.{Found}
use Rattle.spool_catalog.specs.declared.longer.Longer.{Longer}
use Rattle.spool_kept.proofs.slots.SlotChange.{recorded_upload}
use Rattle.spool_kept.proofs.commits.CommitRefusals as rules
use Rattle.spool_kept.proofs.commits.CommitTexts as texts
use Rattle.spool_kept.proofs.drafts.DraftLonger.{WentOn, fit_longer, holds_all, lacks, moved, put_on}
use Rattle.spool_kept.proofs.commits.CommitHead as head

-- other reserved blocks
pub only_blocks : (h : Holding) (blocks : Held) → blocks.rows ≡ h.blocks.rows
    → OnlyReserves h (record h { blocks = blocks })
only_blocks h blocks rows = record { same = refl; rows = rows }

-- the same of an equal catalog
pub on_unchanged : {D : Type 0} {sure : Bool} {disk : Ghosts D} {d : D} {h k : Holding}
    {drafts : List (Option SpoolDraft)}
    {number : ℕ} {o : SpoolDraft} {w : World} {p : Patch} → k ≡ h → IsCommit sure disk d h drafts number o w p
    → IsCommit sure disk d k drafts number o w p
on_unchanged same is = rw same is

-- the slot's upload may become what the text of a draft that is after it ends in
pub may : (h : Holding) (slot : ℕ) (declared : Option ℕ) (accepted : ℕ) (list : List ℕ) (end : DraftEnd)
    (used : SlotRecord) → get_or h.slots slot None ≡ Some used → EndsAfter used.text_len used.state list end
    → MayExtend h (record {
      slot = slot;
      declared = declared;
      accepted = accepted;
      text_len = end.text_len;
      state = end.state;
    }) list
may h slot declared accepted list end used there ends = search (arith, common_steps)

-- what the draft began after is placed as it was
pub placed_still : (n : ℕ) (o o' : SpoolDraft) → committed_len_of o' ≡ committed_len_of o
    → PreservesTail o o' → IsTailPlaced n o → IsTailPlaced n o'
placed_still n o o' len (inl same) is = search (arith, common_steps)
placed_still n o o' len (inr none) is = record {
  below = λ i lt. absurd (omega (arith, lt, ap length none.0));
  few = omega (arith, len, is.few);
}

module _ {D : Type 0} {sure : Bool} {disk : Ghosts D} {d d' : D} {h h' : Holding} (only : OnlyReserves h h')
    {drafts : List (Option SpoolDraft)} {number : ℕ} {o : SpoolDraft} (o' : SpoolDraft) {w : World} {p : Patch}
    (is : IsCommit sure disk d h drafts number o w p)
    (effect : Effect disk (journal_pages h.layout) (list_of o) (list_of o') d d' h.blocks h'.blocks) where
  abbrev s : Stored sure disk d h w.store
  s = is.represents.stored

  unowned : Unowned s.view.rows effect.own
  unowned i lt = cc (effect.grasp.reserved.no_owner i lt)

  -- THE DISK

  pub stored_after : (disk.honest d → disk.honest d') → Stored sure disk d' h' w.store
  stored_after honest = moved d' s only honest effect.own unowned refl
      (λ known. (effect.writes (s.honest known)).writes)

  pub quiet_after : sure ≡ true → Lasts disk d d' (λ image. ImageShows h.layout image w.store)
  quiet_after known = lasts_more (effect.writes (s.honest known)).lasts (λ image is'. record {
    view = s.view;
    blocks = sym s.has_view.blocks;
    is = rests_aside effect.own image (sym s.has_view.blocks) (s.rests known) unowned is';
    shows = s.shows;
  })

  -- THE DRAFT

  own_draft : DraftRepresents (sure ≡ true) w.store.indexes (disk.current d) (text_page h.layout) h.slots h.blocks.rows
      w.store p o
  own_draft = head.own_draft (record { represents = is.represents; patch = is.patch; here = is.here })

  held : Holds w.store.indexes p o
  held = own_draft.holds

  -- what follows of its upload from its slot's record
  module _ {found : Found} (finds : IsFound h.slots o found) where
    abbrev has : HasSameCount h.slots o found.slot
    has = finds.same

    there : get_or s.view.slots found.slot None ≡ Some finds.same.used
    there = ap (λ (xs : List (Option SlotRecord)). get_or xs found.slot None) (sym s.has_view.slots) ∙ has.there

    recorded : IsRecordOf w.store.indexes finds.same.used (s.view.texts found.slot) (with_length p.began is.still.0)
    recorded = recorded_upload s.view w.store s.shows found.slot has.used there (with_length p.began is.still.0)
        (ap (λ (k : ℕ). find k w.store.uploads) (has.number ∙ held.number) ∙ is.still.1)

    -- its length then
    declared_is : found.declared ≡ known_or (known_or p.began.declared is.still.0) p.declare
    declared_is = rw (finds.declared, recorded.declared, held.declare) refl

    reached_is : offset_of o + appended_count o ≡ reached p
    reached_is = omega (arith, held.offset, held.came)

    within : reached p ≤ longest (known_or (known_or p.began.declared is.still.0) p.declare)
    within = subst (λ (k : Option ℕ). reached p ≤ longest k) declared_is (omega (arith, reached_is, finds.within))

    done_is : completes w.store p ≡ is_length found.declared (reached p)
    done_is = grind (arith, common_steps, declared_is)

    -- the text is complete where the upload is
    pub whole_is : is_complete (patched (with_length p.began is.still.0) p.declare p.body) ≡ completes w.store p
    whole_is = cc (complete_patched (with_length p.began is.still.0) p.declare p.body)

    module _ {accepted : ℕ} (sum : accepted ≡ min (offset_of o + appended_count o) (2 ^ 64 - 1)) where
      pub all_came : accepted ≡ reached p
      all_came = omega (arith, sum, reached_is, finds.within, finds.fits)

      completes_is : is_length found.declared accepted ≡ completes w.store p
      completes_is = ap (is_length found.declared) all_came ∙ sym done_is

      indexes_are : h.indexes ≡ w.store.indexes
      indexes_are = s.has_view.indexes ∙ s.shows.indexes

      open_began : is_complete p.began ≡ false
      open_began = texts.open_before p.began is.still.0 is.still.2

      module _ {done : Bool} (done_encodes : done ≡ is_length found.declared accepted)
          (result : Result DraftEnd UploadError) where
        done_then : done ≡ completes w.store p
        done_then = done_encodes ∙ completes_is

        -- how the text ended
        pub ends_as : ((q' : Patch) → Holds h.indexes q' o → is_complete q'.began ≡ false
            → EndsAs h.indexes q' done o o' h.blocks h'.blocks result)
            → EndsAs w.store.indexes p (completes w.store p) o o' h.blocks h'.blocks result
        ends_as answer = rw done_then at (rw indexes_are at (answer p (rw (← indexes_are) at held) open_began))

        -- and the bytes on its blocks
        pub ends_on : ((q' : Patch) → disk.honest d → Holds h.indexes q' o → is_complete q'.began ≡ false
            → Carries h.indexes (disk.current d) (text_page h.layout) q' o
            → IfOk result (λ e. 1 ≤ length (list_of o') → bytes_with (disk.current d') (text_page h.layout) (list_of o')
            e.last.items ≡ open_text h.indexes q' done)) → sure ≡ true
            → IfOk result (λ e. 1 ≤ length (list_of o') → bytes_with (disk.current d') (text_page h.layout) (list_of o')
            e.last.items ≡ open_text w.store.indexes p (completes w.store p))
        ends_on content known =
            rw done_then at (rw indexes_are at (content p (s.honest known) (rw (← indexes_are) at held) open_began
            (rw (← indexes_are) at (own_draft.carries known is.still))))

  -- THE RULES

  module _ (placed : IsTailPlaced h.layout o') (reserved : IsReserved h'.blocks (list_of o'))
      (size : length h.blocks.reserved ≡ length h.blocks.rows) where
    abbrev on : WentOn h.blocks h'.blocks drafts number o o' (set drafts number (Some o'))
    on = put_on number o' is.here effect.grasp

    fit_mid : DraftsHold h.layout h'.blocks (set drafts number (Some o'))
    fit_mid = fit_longer is.fits on reserved placed

    roomy : (done : Bool) → p.short ≡ false → length (list_of o') ≡ wants w.store.indexes p done
        → is_short w number p done ≡ false
    roomy = holds_all is.represents.represents is.fits on only.rows s.shows s.has_view.rows size fit_mid p

    short : (done : Bool) → RunsShort h.blocks h'.blocks (list_of o) (wants w.store.indexes p done)
        → is_short w number p done ≡ true
    short = lacks is.represents.represents is.fits on only.rows s.shows s.has_view.rows size fit_mid p

    stays_short : (done : Bool) → p.short ≡ true → is_short w number p done ≡ true
    unfolding is_short
    stays_short done e = rw e refl

    pub refused : {T : Type 0} (done : T → Type 0) (e : UploadError) → EndsAs w.store.indexes p (completes w.store p)
        o o' h.blocks h'.blocks (Err e) → Answers {T = T} (commit_refusal w number p) (Err e) done (Unit {0})
    refused done (Stop NoMemory) ends = (rules.late w number p is.allowed, tt)
    refused done (Stop DiskFault) ends = rules.late w number p is.allowed
    refused done (Refused refusals.Unencodable) ends = (rules.no_code w number p is.allowed is.changes ends, tt)
    refused done (Refused refusals.Full) ends = (
      rules.no_room w number p is.allowed is.changes ends.0 (elim ends.1 [
        | inl before ↦ stays_short (completes w.store p) before
        | inr ran ↦ short (completes w.store p) ran
      ]),
      tt,
    )
    refused done e ends = absurd ends

    pub not_ended : {T : Type 0} (done : T → Type 0) (r : Result T UploadError) (e : UploadError) → r ≡ Err e
        → (ended : Result DraftEnd UploadError) → ended ≡ Err e
        → EndsAs w.store.indexes p (completes w.store p) o o' h.blocks h'.blocks ended
        → Answers (commit_refusal w number p) r done (Unit {0})
    not_ended {T = T} done r e is_err ended was ends = grind (arith, common_steps, refused)

    module _ (end : DraftEnd) (whole : IsWholeDraft w.store.indexes p (completes w.store p) o' end) {found : Found}
        (finds : IsFound h.slots o found) where
      pub allowed : commit_refusal w number p ≡ None
      allowed = rules.allowed w number p is.allowed is.changes whole.encodable
          (roomy (completes w.store p) whole.roomy whole.listed)

      there_after : get_or h'.slots found.slot None ≡ Some finds.same.used
      there_after = ap (λ (k : Holding). get_or k.slots found.slot None) only.same ∙ finds.same.there

      pub pending : (longer : Longer) → longer.slot ≡ found.slot → longer.declared ≡ found.declared
          → longer.accepted ≡ reached p → longer.text_len ≡ end.text_len → longer.state ≡ end.state
          → Stored sure disk d' h' w.store
          → (1 ≤ length (list_of o') → (length end.last.items + 4095) / PAGE ≤ length (list_of o'))
          → (sure ≡ true → 1 ≤ length (list_of o') → bytes_with (disk.current d') (text_page h.layout) (list_of o')
          end.last.items ≡ open_text w.store.indexes p (completes w.store p))
          → IsPending sure disk d' h' w.store p.number p.declare p.body longer (list_of o') end.last.items
      pending longer at declared accepted len is_state stored fits content = record {
        stored = stored;
        text = open_text w.store.indexes p (completes w.store p);
        fits = fits;
        held = rw (← (ap (λ (k : Holding). k.layout) only.same)) at content;
        append = λ e stored' written. record {
          stored = stored';
          used = record {
            used = finds.same.used;
            there = ap (λ (k : ℕ). get_or h'.slots k None) at ∙ there_after;
            is = finds.same.number ∙ held.number;
          };
          upload = with_length p.began is.still.0;
          there = is.still.1;
          added = texts.more w.store.indexes p is.still.0 o' end is.still.2 (within finds) held.small
              (completes w.store p) (whole_is finds) whole;
          extension = texts.extension w.store.indexes p is.still.0 o' end is.still.2 (within finds) held.small
              (completes w.store p) (whole_is finds) whole longer (disk.current e)
              (text_page h'.layout) (declared ∙ declared_is finds) accepted len is_state written;
        };
      }
