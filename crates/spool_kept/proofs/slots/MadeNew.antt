-- A new upload, in the catalog and on the disk.
use Rattle.std.proofs.lemmas.Grind.{common_steps}
use Rattle.std.proofs.Common.{◌≡◌, ◌⊎◌, ℕ, ◌+◌, ◌<◌, List, Option, None, false, length, get_or}
use Rattle.std.proofs.Common.{refl, sym, ◌∙◌, ap, subst, arith, Bool, true}
use Rattle.common.specs.declared.limits.TheConstants.{SLOTS}
use Rattle.spool_disk.specs.Views.{Lasts}
use Rattle.spool_disk.specs.declared.disk.Disk.{Ghosts}
use Rattle.upload_rules.specs.declared.errors.UploadRefusal.{UploadRefusal}
use Rattle.upload_rules.specs.Calls.{create_refusal, outcome}
use Rattle.upload_rules.specs.Lengths.{is_too_large}
use Rattle.upload_rules.specs.Store.{New, Store, created_store}
use Rattle.upload_rules.specs.World.{at_rest}
use Rattle.spool_pages.specs.Changes.{Changes, with_record}
use Rattle.spool_pages.specs.Rests.{Rests, HasTexts}
use Rattle.spool_pages.specs.View.{SlotRecord, View, IsViewOf, slot_at}
use Rattle.spool_pages.proofs.Resting.{rests_encodes}
use Rattle.spool_kept.specs.Changed.{created_view}
use Rattle.spool_catalog.specs.TakenIn.{HasRoomAt, IsTakenIn, IsNewRecord}
use Rattle.spool_catalog.specs.Holding.{Holding}
use Rattle.spool_catalog.specs.Shows.{IsValidRecord, Shows}
use Rattle.spool_kept.specs.Stored.{Stored, ShowsEither}
use Rattle.spool_kept.proofs.slots.Created.{created_shows, created_texts}
use Rattle.spool_catalog.proofs.slots.HasViews.{has_view_of}
use Rattle.spool_kept.proofs.slots.SlotChange.{lasts_either}

module _ {D : Type 0} {sure : Bool} {disk : Ghosts D} {d : D} {h : Holding} {m : Store} (new : New) {slot : ℕ}
    {r : SlotRecord} (stored : Stored sure disk d h m) (room : HasRoomAt h slot)
    (small : is_too_large new.declared ≡ false) (few : length m.uploads < SLOTS) (is : IsNewRecord h.next new r) where
  abbrev v : View
  v = stored.view

  pub next_is : h.next ≡ m.next
  next_is = stored.has_view.next ∙ stored.shows.next

  -- the rules allow it
  pub allowed : create_refusal (at_rest m None) new ≡ None
  allowed = search (arith, common_steps)

  free : slot_at v slot ≡ None
  free = ap (λ (xs : List (Option SlotRecord)). get_or xs slot None) (sym stored.has_view.slots) ∙ room.free

  valid : IsValidRecord (m.next + 1) r
  valid = rw next_is at (is.valid (omega (arith, stored.has_view.next, stored.shows.valid.next_least)) small)

  shows : Shows (created_view v slot r) (created_store m new)
  shows = created_shows v m new slot r stored.shows room.within free (is.number_is
      ∙ next_is) (is.represents m.indexes) valid
      (omega (arith, room.next, next_is))

  texts : sure ≡ true → HasTexts (disk.current d) (created_view v slot r)
  texts known =
      created_texts v m new slot r stored.shows room.within free (is.number_is
      ∙ next_is) (is.represents m.indexes) valid
      (omega (arith, room.next, next_is)) (disk.current d) ((rests_encodes (stored.rests known)).texts)

  module _ {pages : List (ℕ × List ℕ)}
      (made : Changes pages v (record (with_record v slot r) { next = h.next + 1 })) where
    changes : Changes pages v (created_view v slot r)
    changes = go (v.next + 1) (ap (λ (n : ℕ). n + 1) stored.has_view.next)
      where
        go : (next : ℕ) → h.next + 1 ≡ next → Changes pages v (record (created_view v slot r) { next = next })
        go next e = search (arith, common_steps)

    -- a crash leaves the old store or the new one
    pub crash_new : sure ≡ true → {d' : D}
        → ((v' : View) → Changes pages v v' → HasTexts (disk.current d) v'
        → Lasts disk d d' (λ image. IsViewOf image v ⊎ IsViewOf image v')) → Lasts disk d d'
        (ShowsEither h.layout m (outcome (create_refusal (at_rest m None) new) m (created_store m new)))
    crash_new known {d' = d'} lasts =
        subst (λ (f : Option UploadRefusal). Lasts disk d d'
        (ShowsEither h.layout m (outcome f m (created_store m new)))) (sym allowed)
        (lasts_either disk d d' stored (created_view v slot r) shows refl
        (lasts (created_view v slot r) changes (texts known)))

    -- and the disk and the catalog represent the new store after the change
    pub stored_new : {d' : D} {h' : Holding} → IsTakenIn h slot r h' → (disk.honest d → disk.honest d')
        → (sure ≡ true → (v' : View) → Changes pages v v' → HasTexts (disk.current d) v'
        → Rests v' (disk.current d') (disk.unsynced d')) → Stored sure disk d' h' (created_store m new)
    stored_new {h' = h'} taken honest done = record {
      honest = λ known. honest (stored.honest known);
      view = created_view v slot r;
      rests = λ known. done known (created_view v slot r) changes (texts known);
      has_view = has_view_of h' (created_view v slot r) taken.fits shows.valid (sym (cc)) (cc) (cc) (cc) (cc) (cc);
      shows = shows;
    }
