-- The store that a spool represents is on its disk.
use Rattle.std.specs.Prelude.{◌≡◌, ◌≤◌, ◌*◌, ℕ, true, List, Option, Some, length}
use Rattle.std.proofs.Common.{refl, sym, ◌∙◌, ap}
use Rattle.spool_journal.specs.declared.TheConstants.{PAGE}
use Rattle.spool_disk.specs.Disk.{IsImage}
use Rattle.spool_disk.specs.declared.disk.Disk.{Ghosts}
use Rattle.spool_drafts.specs.declared.draft.SpoolDraft.{SpoolDraft}
use Rattle.spool_journal.specs.Image.{all_pages}
use Rattle.spool_pages.proofs.Resting.{rests_image}
use Rattle.upload_rules.specs.Answers.{Among}
use Rattle.upload_rules.specs.Store.{Store}
use Rattle.upload_rules.specs.World.{World}
use Rattle.spool_kept.specs.Drafting.{StandsFor}
use Rattle.spool_catalog.specs.Holding.{Holding}
use Rattle.spool_image.specs.LeftOnly.{SpoolLeft}
use Rattle.spool_catalog.specs.Shows.{ImageShows}
use Rattle.spool_kept.specs.Stored.{Stored}

-- Every crash image of a spool that is known to represent a store shows it.
pub stored_shows : {D : Type 0} (disk : Ghosts D) (d : D) (h : Holding) (m : Store) (image : ℕ → ℕ)
    → Stored true disk d h m → IsImage (disk.current d) (disk.unsynced d) image → ImageShows h.layout image m
stored_shows disk d h m image stored is = record {
  view = stored.view;
  blocks = sym stored.has_view.blocks;
  is = rests_image image (stored.rests refl) is;
  shows = stored.shows;
}

-- So crash images from now on are limited to lists with that store.
pub durable_left : {D : Type 0} {disk : Ghosts D} (d : D) (h : Holding) (drafts : List (Option SpoolDraft)) (w : World)
    (ms : List Store) → PAGE * all_pages h.layout ≤ disk.size d
    → ((image : ℕ → ℕ) → disk.left_since d (disk.moment d) image → IsImage (disk.current d) (disk.unsynced d) image)
    → StandsFor true disk d h drafts w → Among w.store ms → SpoolLeft disk d h.layout w.blocks (disk.moment d) ms
durable_left {disk = disk} d h drafts w ms room only represents among =
    let stored = represents.stored in
    let rows : length h.blocks.rows ≡ h.layout =
    ap length stored.has_view.rows ∙ stored.shows.valid.row_count ∙ sym stored.has_view.blocks in (
      represents.represents.limit ∙ ap Some rows,
      record {
        honest = stored.honest refl;
        room = room;
        each = λ image left.
            record {
              store = w.store;
              among = among;
              shows = stored_shows disk d h w.store image stored (only image left);
            };
      },
    )
