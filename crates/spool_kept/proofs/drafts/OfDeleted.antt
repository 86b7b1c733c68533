-- The drafts, where an upload was taken away.
use Rattle.std.proofs.lemmas.Grind.{common_steps}
use Rattle.std.proofs.Common.{◌≡◌, ◌≢◌, ℕ, ◌*◌, ◌≤◌, List, Option, None, Some, refl, subst, arith, Bool, true}
use Rattle.std.proofs.lemmas.Bool.{cases_eq}
use Rattle.spool_journal.specs.declared.TheConstants.{PAGE}
use Rattle.spool_blocks.specs.Blocks.{Held}
use Rattle.spool_disk.specs.declared.disk.Disk.{Ghosts}
use Rattle.spool_drafts.specs.declared.draft.SpoolDraft.{SpoolDraft}
use Rattle.spool_journal.specs.Image.{text_page}
use Rattle.upload_rules.specs.Calls.{terminated}
use Rattle.upload_rules.specs.Grown.{GrewFrom, IsGrown}
use Rattle.upload_rules.specs.Store.{Upload, deleted_store, upload_of}
use Rattle.upload_rules.specs.World.{Patch, World}
use Rattle.upload_rules.proofs.Deleted.{find_in_others, none_in_others}
use Rattle.spool_kept.specs.Drafting.{DraftRepresents, DraftsHold, DraftsRepresent, IsStillOpen, StandsFor}
use Rattle.spool_catalog.specs.Holding.{Holding, IsUsedBy}
use Rattle.spool_kept.specs.Stored.{Stored}
use Rattle.spool_catalog.specs.Rows.{FreesRows}
use Rattle.spool_catalog.specs.TakenOut.{IsTakenOut}
use Rattle.spool_catalog.proofs.slots.ChangedSlots.{clash}
use Rattle.spool_kept.proofs.drafts.DraftLonger.{held_both}
use Rattle.spool_drafts.proofs.Stays.{has_same}
use Rattle.spool_catalog.proofs.slots.Freed.{others_stay}
use Rattle.spool_kept.proofs.slots.SlotChange.{owned_still}

-- WHATEVER THE DISK GAVE

pub hold_still : (n slot : ℕ) (old new : Held) (drafts : List (Option SpoolDraft)) → FreesRows slot old.rows new.rows
    → new.reserved ≡ old.reserved → DraftsHold n old drafts → DraftsHold n new drafts
hold_still n slot old new drafts frees same hold = search (arith, common_steps)

-- WHAT THEY REPRESENT

-- an upload of the store without the number has another number, and was there
upload_was : (w : World) (number n : ℕ) (u : Upload) → upload_of (deleted_store w.store number) n ≡ Some u
    → (number ≢ n) × (upload_of w.store n ≡ Some u)
upload_was w number n u e = grind (arith, common_steps, cases_eq, clash, none_in_others, find_in_others)

-- and so was one that is as a patch began, but for a length
still_was : (w : World) (number : ℕ) (p : Patch) → IsStillOpen (deleted_store w.store number) p
    → (number ≢ p.number) × IsStillOpen w.store p
still_was w number p still = grind (arith, common_steps, upload_was)

still_grown : (w : World) (number : ℕ) → IsGrown w → IsGrown (terminated w number)
still_grown w number grown = record {
  each = λ d p found. by_answer p (upload_of (deleted_store w.store number) p.number) refl (grown.each d p found);
}
  where
    by_answer : (p : Patch) (o : Option Upload) → upload_of (deleted_store w.store number) p.number ≡ o
        → GrewFrom p (upload_of w.store p.number) → GrewFrom p o
    by_answer p None e grew = tt
    by_answer p (Some u) e grew = subst (GrewFrom p) (upload_was w number p.number u e).1 grew

module _ {h h' : Holding} {number slot : ℕ} (used : IsUsedBy h.slots slot number) (out : IsTakenOut h slot h') where
  module _ {sure : Type 0} (w : World) (current current' : ℕ → ℕ) (first : ℕ)
      (same : sure → (p : ℕ) → PAGE * first ≤ p → current' p ≡ current p) where
    represents_still : (p : Patch) (o : SpoolDraft) → DraftRepresents sure w.store.indexes current first h.slots
        h.blocks.rows
        w.store p o → DraftRepresents sure w.store.indexes current' first h'.slots h'.blocks.rows
        (deleted_store w.store number) p o
    represents_still p o s = record {
      holds = s.holds;
      below = s.below;
      carries = λ known there. has_same current current' first _ o.progress (same known)
          (s.carries known (still_was w number p there).1);
      tail = λ there.
          let was = still_was w number p there in
          owned_still None out.slots (others_stay slot h.blocks.rows h'.blocks.rows out.rows) used was.0 (s.tail was.1);
    }

    pub drafts_still : (drafts : List (Option SpoolDraft)) → DraftsRepresent sure w.store.indexes current first h.slots
        h.blocks w drafts → DraftsRepresent sure w.store.indexes current' first h'.slots h'.blocks
        (terminated w number) drafts
    drafts_still drafts represent = grind (arith, common_steps, held_both, represents_still, still_grown)

  pub represents_after : {D : Type 0} {sure : Bool} {disk : Ghosts D} {d d' : D} {drafts : List (Option SpoolDraft)}
      {w : World} → StandsFor sure disk d h drafts w → Stored sure disk d' h' (deleted_store w.store number)
      → (sure ≡ true → (p : ℕ) → PAGE * text_page h.layout ≤ p → disk.current d' p ≡ disk.current d p)
      → StandsFor sure disk d' h' drafts (terminated w number)
  represents_after {sure = sure} {disk = disk} {d = d} {d' = d'} {drafts = drafts} {w = w} represents stored same =
      record {
        stored = stored;
        represents = rw (← out.layout) at (drafts_still w (disk.current d) (disk.current d') (text_page h.layout) same
            drafts
            represents.represents);
      }
