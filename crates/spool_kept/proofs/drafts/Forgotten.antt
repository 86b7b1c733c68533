-- The drafts, where an upload was taken away and its drafts forgot its last block.
use Rattle.std.proofs.lemmas.Grind.{common_steps}
use Rattle.std.proofs.Common.{◌≡◌, ℕ, List, Option, None, Some, refl, sym, ◌∙◌, ap, subst, arith, true}
use Rattle.std.proofs.Common.{length, get_or, Bool}
use Rattle.enc_model.specs.Indexes.{IndexSet}
use Rattle.spool_blocks.specs.Blocks.{Held}
use Rattle.spool_disk.specs.declared.disk.Disk.{Ghosts}
use Rattle.spool_drafts.specs.declared.draft.SpoolDraft.{SpoolDraft}
use Rattle.spool_journal.specs.Image.{text_page}
use Rattle.spool_pages.specs.View.{SlotRecord}
use Rattle.spool_texts.specs.Drafts.{IsReserved}
use Rattle.upload_rules.specs.Drafts.{DraftOf, draft_at}
use Rattle.upload_rules.specs.Store.{find, upload_of}
use Rattle.upload_rules.specs.World.{Patch, World}
use Rattle.spool_kept.specs.Drafting.{DraftRepresents, DraftsFit, DraftsHold, DraftsRepresent, IsOfUpload, StandsFor}
use Rattle.spool_kept.specs.Drafting.{list_in}
use Rattle.spool_kept.specs.Drafting.{lists_at}
use Rattle.spool_catalog.specs.Holding.{Holding, IsUsedBy}
use Rattle.spool_kept.specs.Terminating.{EachForgets, ForgetsOf, ForgetsTail}
use Rattle.spool_catalog.specs.TakenOut.{IsTakenOut}
use Rattle.spool_catalog.proofs.slots.ChangedSlots.{clash}
use Rattle.spool_kept.proofs.drafts.OfDeleted.{hold_still}

-- each draft comes of one that was there
pub draft_was : (number : ℕ) (old new : Option SpoolDraft) → ForgetsOf number old new → (o' : SpoolDraft)
    → new ≡ Some o' → (o : SpoolDraft) × (old ≡ Some o) × ForgetsTail number o o'
draft_was number None None forgets o' e = clash refl e
draft_was number (Some o) (Some q) forgets o' e =
    (o, refl, subst (λ (x : Option SpoolDraft). ForgetsOf number (Some o) x) e forgets)
draft_was number o q forgets o' e = absurd forgets

list_of_forgotten : (number : ℕ) (old new : Option SpoolDraft) → ForgetsOf number old new → list_in new ≡ list_in old
list_of_forgotten number None None forgets = refl
list_of_forgotten number (Some o) (Some q) forgets = forgets.same_list
list_of_forgotten number o q forgets = absurd forgets

module _ (number : ℕ) (old new : List (Option SpoolDraft)) (forgets : EachForgets number old new) where
  lists_same : (d : ℕ) → lists_at new d ≡ lists_at old d
  lists_same d = list_of_forgotten number (draft_at old d) (draft_at new d) (forgets d)

  pub hold_forgotten : (n : ℕ) (h : Held) → DraftsHold n h old → DraftsHold n h new
  hold_forgotten n h hold = record {
    reserved = λ d. subst (IsReserved h) (sym (lists_same d)) (hold.reserved d);
    placed = search (arith, common_steps);
    distinct = λ d e apart. rw (← (lists_same d)) at (rw (← (lists_same e)) at (hold.distinct d e apart));
  }

  module _ (sure : Type 0) (x : IndexSet) (current : ℕ → ℕ) (first : ℕ) (slots : List (Option SlotRecord)) (h : Held)
      (w : World) (gone : upload_of w.store number ≡ None) where
    represents_of : (p : Patch) (o o' : SpoolDraft) → ForgetsTail number o o'
        → DraftRepresents sure x current first slots h.rows w.store p o
        → DraftRepresents sure x current first slots h.rows w.store p o'
    represents_of p o o' forgot s = search (arith, common_steps)

    each_of : (q : Option Patch) (o o' : Option SpoolDraft) → ForgetsOf number o o'
        → DraftOf (DraftRepresents sure x current first slots h.rows w.store) q o
        → DraftOf (DraftRepresents sure x current first slots h.rows w.store) q o'
    each_of None None None forgot s = tt
    each_of (Some p) (Some o) (Some o') forgot s = represents_of p o o' forgot s
    each_of None None (Some o') forgot s = absurd forgot
    each_of (Some p) (Some o) None forgot s = absurd forgot
    each_of q o o' forgot s = absurd s

    draft_forgotten : DraftsRepresent sure x current first slots h w old
        → DraftsRepresent sure x current first slots h w new
    draft_forgotten represent = record {
      each = λ d. each_of (find d w.patches) (draft_at old d) (draft_at new d) (forgets d) (represent.each d);
      apart = represent.apart;
      grown = represent.grown;
      limit = represent.limit;
      all = λ b is.
          let was = represent.all b is in
          record {
            list = was.list;
            at = was.at;
            below = omega (arith, was.below, ap length (lists_same was.list));
            here = ap (λ (xs : List ℕ). get_or xs was.at 0) (lists_same was.list) ∙ was.here;
          };
    }

  pub represents_forgotten : {D : Type 0} {sure : Bool} {disk : Ghosts D} {d : D} {h : Holding} {w : World}
      → upload_of w.store number ≡ None → StandsFor sure disk d h old w → StandsFor sure disk d h new w
  represents_forgotten {sure = sure} {disk = disk} {d = d} {h = h} {w = w} gone represents = record {
    stored = represents.stored;
    represents = draft_forgotten (sure ≡ true) w.store.indexes (disk.current d) (text_page h.layout) h.slots h.blocks
        w gone
        represents.represents;
  }

-- WHATEVER THE DISK GAVE

module _ {h h' : Holding} {slot number : ℕ} (used : IsUsedBy h.slots slot number) (out : IsTakenOut h slot h')
    (old new : List (Option SpoolDraft)) (forgets : EachForgets number old new) (fit : DraftsFit h old) where
  still_of : (o o' : SpoolDraft) → ForgetsTail number o o' → IsOfUpload h.slots o → IsOfUpload h'.slots o'
  still_of o o' forgot is = record {
    grown = λ s r e at. omega (arith, is.grown s r (was s r e) (at ∙ forgot.same_number), forgot.same_offset);
    after = λ s r e at same still. forgot.after r.text_len r.state
        (is.after s r (was s r e) (at ∙ forgot.same_number) (same ∙ forgot.same_offset) still);
  }
    where
      was : (s : ℕ) (r : SlotRecord) → get_or h'.slots s None ≡ Some r → get_or h.slots s None ≡ Some r
      was s r e = search (arith, common_steps)

  pub fits_after : DraftsFit h' new
  fits_after = record {
    blocks = hold_forgotten number old new forgets h'.layout h'.blocks
        (rw (← out.layout) at (hold_still h.layout slot h.blocks h'.blocks old out.rows out.reserved fit.blocks));
    below = search (arith, common_steps);
    uploads = λ d o' e.
        let was = draft_was number (draft_at old d) (draft_at new d) (forgets d) o' e in
        still_of was.0 o' was.2 (fit.uploads d was.0 was.1);
  }
