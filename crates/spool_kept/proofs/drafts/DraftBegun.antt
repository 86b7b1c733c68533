-- A draft more, at the least number that is free.
use Rattle.std.proofs.lemmas.Grind.{common_steps}
use Rattle.std.proofs.Common.{◌≡◌, Result, Ok, Err, ℕ, List, [], ◌∷◌, Option, None, Some, sym, ◌∙◌, ap}
use Rattle.std.proofs.Common.{subst, arith, Bool, true}
use Rattle.spool_blocks.specs.Blocks.{Held}
use Rattle.spool_disk.specs.declared.disk.Disk.{Ghosts}
use Rattle.spool_journal.specs.Image.{text_page}
use Rattle.spool_drafts.specs.Drafts.{IsTailPlaced, list_of, tail_of}
use Rattle.spool_drafts.specs.declared.draft.SpoolDraft.{SpoolDraft}
use Rattle.upload_rules.specs.declared.errors.UploadRefusal.{UploadRefusal}
use Rattle.upload_rules.specs.Answers.{IsLate}
use Rattle.upload_rules.specs.Calls.{begin_refusal, begin_refusal_at, begun, begun_at, first_patch}
use Rattle.upload_rules.specs.Drafts.{IsPlaced}
use Rattle.upload_rules.specs.Store.{Upload, find, upload_of}
use Rattle.upload_rules.specs.World.{Patch, World, free_number}
use Rattle.upload_rules.proofs.FreeNumbers.{is_free}
use Rattle.upload_rules.proofs.Growing.{grown_begun}
use Rattle.upload_rules.proofs.Patches.{patch_there, begun_represents}
use Rattle.spool_catalog.specs.Holding.{Holding}
use Rattle.spool_kept.specs.Drafting.{DraftsHold, DraftRepresents, DraftsRepresent, StandsFor, CarriesFor, OpensFor}
use Rattle.spool_catalog.specs.Holding.{IsOwnedBy}
use Rattle.spool_kept.proofs.drafts.Drafted.{IsChanged}
use Rattle.spool_kept.proofs.slots.Created.{number_below}

module _ {old new : List (Option SpoolDraft)} {place : ℕ} {o : SpoolDraft} (placed : IsPlaced old o place new) where
  pub changed_more : IsChanged old place (Some o) new
  changed_more = search (arith, common_steps)

  pub fit_begun : (n : ℕ) (h : Held) → DraftsHold n h old → list_of o ≡ [] → IsTailPlaced n o → DraftsHold n h new
  fit_begun n h fit none tailed = search (arith, common_steps)

module _ {D : Type 0} {sure : Bool} {disk : Ghosts D} {d : D} {h : Holding} {old : List (Option SpoolDraft)} {w : World}
    (s : StandsFor sure disk d h old w) (n offset count : ℕ) (declare : Option ℕ) where
  abbrev Opens : Option Upload → Result SpoolDraft UploadRefusal → Type 0
  Opens u r = OpensFor w.store n offset count declare u r

  pub begin_refused : (u : Option Upload) (e : UploadRefusal) → upload_of w.store n ≡ u → Opens u (Err e)
      → begin_refusal w n offset count declare ≡ Some e
  begin_refused None e there opens = ap (begin_refusal_at offset count declare) there ∙ ap Some (sym opens)
  begin_refused (Some u) e there opens = ap (begin_refusal_at offset count declare) there ∙ opens

  pub begin_allowed : (u : Option Upload) (o : SpoolDraft) → upload_of w.store n ≡ u → Opens u (Ok o)
      → begin_refusal w n offset count declare ≡ None
  begin_allowed None o there opens = absurd opens
  begin_allowed (Some u) o there opens = ap (begin_refusal_at offset count declare) there ∙ opens.0

  pub begin_late : (u : Option Upload) (o : SpoolDraft) → upload_of w.store n ≡ u → Opens u (Ok o)
      → IsLate (begin_refusal w n offset count declare)
  begin_late u o there opens = subst IsLate (sym (begin_allowed u o there opens)) tt

  module _ {new : List (Option SpoolDraft)} {place : ℕ} {o : SpoolDraft} (placed : IsPlaced old o place new)
      (none : list_of o ≡ []) (owned : IsOwnedBy h.slots h.blocks.rows n (tail_of o))
      (carries : sure ≡ true → CarriesFor w.store n count declare (disk.current d) (text_page h.layout) o) where
    abbrev IsDraft : Patch → SpoolDraft → Type 0
    IsDraft = DraftRepresents (sure ≡ true) w.store.indexes (disk.current d)
        (text_page h.layout) h.slots h.blocks.rows w.store

    nothing_there : find place w.patches ≡ None
    nothing_there = search (arith, common_steps)

    number_free : place ≡ free_number w
    number_free = grind (arith, common_steps, is_free, patch_there, nothing_there)

    represents_begun : (u : Upload) → upload_of w.store n ≡ Some u → Opens (Some u) (Ok o)
        → DraftsRepresent (sure ≡ true) w.store.indexes (disk.current d) (text_page h.layout) h.slots h.blocks
        (record w { patches = (place, first_patch n count declare u) ∷ w.patches }) new
    represents_begun u there opens = record {
      each = begun_represents IsDraft w.patches old new s.represents.each place (first_patch n count declare u) o
          placed record {
            holds = opens.1;
            below = number_below s.stored.view w.store s.stored.shows n u there;
            carries = λ known still. carries known u there;
            tail = λ still. owned;
          };
      apart = (nothing_there, s.represents.apart);
      grown = grown_begun w s.represents.grown n count declare u place there;
      limit = s.represents.limit;
      all = search (arith, common_steps);
    }

    pub begins : (u : Option Upload) → upload_of w.store n ≡ u → Opens u (Ok o) → (place ≡ free_number w)
        × StandsFor sure disk d h new (begun w n count declare)
    begins None there opens = absurd opens
    begins (Some u) there opens = (
      number_free,
      subst (λ q. StandsFor sure disk d h new (begun_at w n count declare q)) (sym there)
          (subst (λ k. StandsFor sure disk d h new (record w
          { patches = (k, first_patch n count declare u) ∷ w.patches })) number_free
          (record { stored = s.stored; represents = represents_begun u there opens })),
    )
