-- An upload taken away, in the catalog and on the disk.
use Rattle.std.proofs.Common.{◌≡◌, ◌⊎◌, ℕ, List, [], Option, None, Some, get_or, refl, sym, ◌∙◌, ap, subst, Bool, true}
use Rattle.spool_blocks.specs.Blocks.{Row}
use Rattle.spool_disk.specs.Views.{Lasts}
use Rattle.spool_disk.specs.declared.disk.Disk.{Ghosts}
use Rattle.upload_rules.specs.Calls.{outcome}
use Rattle.upload_rules.specs.Reading.{no_such}
use Rattle.upload_rules.specs.Room.{blocks_of}
use Rattle.upload_rules.specs.Store.{Store, deleted_store, upload_of}
use Rattle.upload_rules.specs.declared.errors.UploadRefusal.{UploadRefusal}
use Rattle.upload_rules.specs.declared.errors.UploadRefusal.TheVariants.{NoSuch}
use Rattle.spool_pages.specs.Changes.{Changes, ChangesButRows, SameRowsBut, with_slot}
use Rattle.spool_pages.specs.Rests.{Rests, HasTexts}
use Rattle.spool_pages.specs.View.{SlotRecord, View, IsViewOf, slot_at}
use Rattle.spool_pages.proofs.Resting.{rests_encodes}
use Rattle.spool_catalog.specs.Holding.{Holding, FitsTogether, IsUsedBy}
use Rattle.spool_catalog.specs.Shows.{Shows}
use Rattle.spool_kept.specs.Stored.{Stored, ShowsEither}
use Rattle.spool_catalog.specs.Rows.{FreesRows}
use Rattle.spool_catalog.specs.TakenOut.{IsTakenOut}
use Rattle.spool_kept.specs.Terminating.{deleted_view}
use Rattle.spool_catalog.proofs.Answered.{no_upload}
use Rattle.spool_kept.proofs.slots.Deleted.{deleted_shows, deleted_texts}
use Rattle.spool_catalog.proofs.slots.Freed.{rows_but_own}
use Rattle.spool_catalog.proofs.slots.HasViews.{has_view_of}
use Rattle.spool_kept.proofs.slots.SlotChange.{lasts_either}

module _ {D : Type 0} {sure : Bool} {disk : Ghosts D} {d : D} {h : Holding} {m : Store} (number : ℕ)
    (stored : Stored sure disk d h m) where
  -- no slot has the number
  pub refused : ((s : ℕ) → IsUsedBy h.slots s number → ⊥) → no_such (upload_of m number) ≡ Some NoSuch
  refused none = ap no_such (no_upload stored.has_view stored.shows number none)

  module _ {slot : ℕ} (used : IsUsedBy h.slots slot number) where
    there : slot_at stored.view slot ≡ Some used.used
    there = ap (λ (xs : List (Option SlotRecord)). get_or xs slot None) (sym stored.has_view.slots) ∙ used.there

    -- a slot has it, so the rules allow it
    pub allowed : no_such (upload_of m number) ≡ None
    allowed = ap no_such (ap (upload_of m) (sym used.is) ∙ (stored.shows.recorded slot used.used there).there)

    module _ {h' : Holding} (out : IsTakenOut h slot h') {blank filled : List (ℕ × List ℕ)}
        (but : (v : View) → v.blocks ≡ h.layout → v.version ≡ h.version → v.slots ≡ h.slots → (rows : List Row)
        → SameRowsBut (get_or h.lists slot []) v.rows rows → ChangesButRows blank v
        (record (with_slot v slot None) { rows = rows }))
        (fill : (v v' : View) → v.blocks ≡ h'.layout → ChangesButRows blank v v' → v'.rows ≡ h'.blocks.rows
        → Changes filled v v') where
      abbrev old : View
      old = stored.view

      abbrev new : View
      new = deleted_view stored.view slot h'.blocks.rows

      frees : FreesRows slot old.rows h'.blocks.rows
      frees = subst (λ (rows : List Row). FreesRows slot rows h'.blocks.rows) stored.has_view.rows out.rows

      shows : Shows new (deleted_store m number)
      shows = rw used.is at (deleted_shows old m stored.shows slot used.used there h'.blocks.rows frees)

      texts : sure ≡ true → HasTexts (disk.current d) new
      texts known = deleted_texts old m stored.shows slot used.used there h'.blocks.rows frees (disk.current d)
          (rests_encodes (stored.rests known)).texts

      blocks : old.blocks ≡ h'.layout
      blocks = sym (out.layout ∙ stored.has_view.blocks)

      changes : Changes filled old new
      changes =
          fill old new blocks (but old (sym stored.has_view.blocks) (sym stored.has_view.version)
          (sym stored.has_view.slots)
          h'.blocks.rows (rows_but_own slot old.rows h'.blocks.rows frees (blocks_of used.used.text_len)
          (get_or h.lists slot []) (stored.shows.valid.lists slot used.used there)
          (stored.has_view.listed slot used.used there) (stored.has_view.sizes slot used.used there))) refl

      -- what the commit of the pages makes of a view
      abbrev Makes : (View → View → Type 0) → Type 0
      Makes Made =
          (v v' : View) → v.blocks ≡ h'.layout → Rests v (disk.current d) (disk.unsynced d)
          → Changes filled v v' → HasTexts (disk.current d) v' → Made v v'

      -- a crash leaves the upload or its deletion
      pub crash_after : sure ≡ true → {d' : D} → Makes
          (λ v v'. Lasts disk d d' (λ image. IsViewOf image v ⊎ IsViewOf image v'))
          → Lasts disk d d' (ShowsEither h.layout m (outcome (no_such (upload_of m number)) m (deleted_store m number)))
      crash_after known {d' = d'} lasts =
          subst (λ (f : Option UploadRefusal). Lasts disk d d' (ShowsEither h.layout m
          (outcome f m (deleted_store m number)))) (sym allowed) (lasts_either disk d d' stored new shows refl
          (lasts old new blocks (stored.rests known) changes (texts known)))

      pub stored_after : {d' : D} → FitsTogether h' → (disk.honest d → disk.honest d')
          → (sure ≡ true → Makes (λ v v'. Rests v' (disk.current d') (disk.unsynced d')))
          → Stored sure disk d' h' (deleted_store m number)
      stored_after fits honest done = record {
        honest = λ known. honest (stored.honest known);
        view = new;
        rests = λ known. done known old new blocks (stored.rests known) changes (texts known);
        has_view = has_view_of h' new fits shows.valid blocks (cc) (cc) (cc) (cc) refl;
        shows = shows;
      }
