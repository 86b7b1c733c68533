-- What an opened spool shows.
use Rattle.std.proofs.Common.{◌⊎◌, inl, inr, ℕ, ◌*◌, ◌≤◌, sym, subst, ⊎_elim}
use Rattle.spool_journal.specs.declared.TheConstants.{PAGE}
use Rattle.spool_disk.specs.Disk.{IsImage}
use Rattle.spool_disk.specs.Views.{Lasts}
use Rattle.spool_disk.specs.declared.disk.Disk.{Ghosts}
use Rattle.spool_disk.proofs.Firm.{lasts_more, lasts_on}
use Rattle.spool_journal.specs.Image.{journal_pages, all_pages, overlaid}
use Rattle.spool_journal.specs.Phases.{ReadsAs}
use Rattle.upload_rules.specs.Store.{Store}
use Rattle.spool_pages.specs.View.{View, IsViewOf}
use Rattle.spool_pages.proofs.Encodes.{encodes_same}
use Rattle.spool_catalog.specs.Shows.{ImageShows, IsValid}
use Rattle.spool_image.specs.LeftOnly.{IsSpool, LeftOrShows}

-- what reads the same shows the same
pub reads_shows : (image was : ℕ → ℕ) (v : View) → IsViewOf was v
    → ReadsAs (journal_pages v.blocks) image (overlaid was) → IsViewOf image v
reads_shows image was v is reads = record {
  form = reads.form;
  encodes = encodes_same (overlaid image) (overlaid was) v reads.same is.encodes;
}

pub image_shows : (n : ℕ) (m : Store) (image was : ℕ → ℕ) (shown : ImageShows n was m)
    → ReadsAs (journal_pages shown.view.blocks) image (overlaid was) → ImageShows n image m
image_shows n m image was shown reads = record {
  view = shown.view;
  blocks = shown.blocks;
  is = reads_shows image was shown.view shown.is reads;
  shows = shown.shows;
}

-- and the disk has room for its view
pub view_room : {D : Type 0} (disk : Ghosts D) (d : D) (n : ℕ) (m : Store) (is : IsSpool disk d n m)
    → PAGE * all_pages is.shows.view.blocks ≤ disk.size d
view_room disk d n m is = subst (λ (k : ℕ). PAGE * all_pages k ≤ disk.size d) (sym is.shows.blocks) is.room

-- what reads the same while a disk is opened shows the same
pub lasts_shown : {D : Type 0} (disk : Ghosts D) (d d' : D) (n : ℕ) (m : Store) (is : IsSpool disk d n m)
    → ((v : View) → IsValid v → IsViewOf (disk.current d) v → PAGE * all_pages v.blocks ≤ disk.size d
    → Lasts disk d d' (λ image. IsImage (disk.current d) (disk.unsynced d) image
    ⊎ ReadsAs (journal_pages v.blocks) image (overlaid (disk.current d))))
    → Lasts disk d d' (LeftOrShows disk d n m)
lasts_shown disk d d' n m is lasts =
    lasts_more (lasts is.shows.view is.shows.shows.valid is.shows.is (view_room disk d n m is))
    (λ image one. ⊎_elim (λ here. inl here) (λ reads. inr (image_shows n m image (disk.current d) is.shows reads)) one)

-- BY VIEWS

module _ {D : Type 0} (disk : Ghosts D) where
  -- what holds of each image by the view that a read shows, as it follows by the uploads
  pub lasts_as : (d d' : D) (n : ℕ) (m : Store) (is : IsSpool disk d n m) (P : View → (ℕ → ℕ) → Type 0)
      (Q : (ℕ → ℕ) → Type 0)
      → ((v : View) → IsValid v → IsViewOf (disk.current d) v → PAGE * all_pages v.blocks ≤ disk.size d
      → Lasts disk d d' (P v)) → ((image : ℕ → ℕ) → P is.shows.view image → Q image) → Lasts disk d d' Q
  lasts_as d d' n m is P Q lasts more =
      lasts_more (lasts is.shows.view is.shows.shows.valid is.shows.is (view_room disk d n m is)) more

  pub lasts_or : {d d' : D} (A B C : (ℕ → ℕ) → Type 0) → ((image : ℕ → ℕ) → B image → C image)
      → Lasts disk d d' (λ image. A image ⊎ B image) → Lasts disk d d' (λ image. A image ⊎ C image)
  lasts_or A B C more lasts = lasts_more lasts (λ image one. ⊎_elim (λ a. inl a) (λ b. inr (more image b)) one)

  module _ (d : D) (v : View) (P : (ℕ → ℕ) → Type 0) (is : IsViewOf (disk.current d) v) where
    abbrev Read : (ℕ → ℕ) → Type 0
    Read image = IsImage (disk.current d) (disk.unsynced d) image
        ⊎ ReadsAs (journal_pages v.blocks) image (overlaid (disk.current d))

    abbrev Viewed : (ℕ → ℕ) → Type 0
    Viewed image = IsImage (disk.current d) (disk.unsynced d) image ⊎ IsViewOf image v ⊎ P image

    -- an opening leaves its view, and a call after it this or something else
    pub read_alone : (d' : D) → Lasts disk d d' Read → Lasts disk d d' Viewed
    read_alone d' lasts =
        lasts_more lasts (λ image one. ⊎_elim (λ here. inl here)
        (λ reads. inr (inl (reads_shows image (disk.current d) v is reads))) one)

    pub read_then : (mid d' : D) → Lasts disk d mid Read → Lasts disk mid d' (λ image. IsViewOf image v ⊎ P image)
        → Lasts disk d d' Viewed
    read_then mid d' lasts after = lasts_on (read_alone mid lasts) (lasts_more after (λ image one. inr one))
