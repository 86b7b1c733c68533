-- What a disk and its catalog represent: a store of uploads.
use Rattle.std.specs.Prelude.{◌⊎◌, ℕ}
use Rattle.std.specs.Prelude.{◌≡◌, Bool, true}
use Rattle.spool_disk.specs.declared.disk.Disk.{Ghosts}
use Rattle.spool_pages.specs.Rests.{Rests}
use Rattle.spool_pages.specs.View.{View}
use Rattle.upload_rules.specs.Store.{Store}
use Rattle.spool_catalog.specs.Holding.{Holding}
use Rattle.spool_catalog.specs.Catalog.{HasView}
use Rattle.spool_catalog.specs.Shows.{Shows, ImageShows}

-- The catalog has a view that shows the uploads. Where that is sure, the disk is honest, and at rest with the view.
-- Where it isn't, nothing is claimed of the disk.
pub record Stored {D : Type 0} (sure : Bool) (disk : Ghosts D) (d : D) (h : Holding) (m : Store) : Type 0 where
  pub honest : sure ≡ true → disk.honest d
  pub view : View
  pub rests : sure ≡ true → Rests view (disk.current d) (disk.unsynced d)
  pub has_view : HasView h view
  pub shows : Shows view m

-- the image shows one of the two, and so many blocks
abbrev pub ShowsEither : ℕ → Store → Store → (ℕ → ℕ) → Type 0
ShowsEither n before after image = ImageShows n image before ⊎ ImageShows n image after
