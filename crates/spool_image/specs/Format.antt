-- The refusals of `format`, and the crash images during it.
use Rattle.std.specs.Prelude.{◌≡◌, ◌⊎◌, ℕ, ◌*◌, ◌<◌, ◌≤◌, Result, Ok, Err}
use Rattle.spool_journal.specs.declared.TheConstants.{PAGE}
use Rattle.common.specs.declared.limits.TheConstants.{LEAST_BLOCKS, MOST_BLOCKS}
use Rattle.enc_model.specs.Indexes.{IndexSet}
use Rattle.spool_disk.specs.Disk.{span}
use Rattle.spool_journal.specs.Image.{all_pages, byte_of}
use Rattle.upload_rules.specs.Store.{no_uploads}
use Rattle.spool_catalog.specs.Shows.{ImageShows, IsValid}
use Rattle.spool_pages.specs.View.{View, IsViewOf, first_page, magic}
use Rattle.spool_pages.specs.declared.version.Version.TheVariants.{Two}
use Rattle.spool_image.specs.declared.error.FormatError.{FormatError}
use Rattle.spool_image.specs.declared.error.FormatError.TheVariants.{AlreadySpool, Size, DiskFault}

-- A disk of this size begins as a spool.
pub record HasMagic (size : ℕ) (current : ℕ → ℕ) : Type 0 where
  pub room : 8 ≤ size
  pub prefix : span current 0 8 ≡ magic

-- The number of text blocks is in range, and the disk has room for all pages.
pub record FitsSpool (blocks size : ℕ) : Type 0 where
  pub least : LEAST_BLOCKS ≤ blocks
  pub most : blocks ≤ MOST_BLOCKS
  pub room : PAGE * all_pages blocks ≤ size

-- Page 0 is one that a crash could have left before.
pub record PrefixStays (current : ℕ → ℕ) (unsynced : ℕ → Type 0) (image : ℕ → ℕ) : Type 0 where
  pub same : (p : ℕ) → p < PAGE → (unsynced p → ⊥) → image p ≡ current p

-- If page 0 of the image is complete, it shows no uploads, these indexes and n text blocks.
pub record FormatsTo (n : ℕ) (x : IndexSet) (image : ℕ → ℕ) : Type 0 where
  pub shows : ((p : ℕ) → p < PAGE → image p ≡ byte_of (first_page n) p) → ImageShows n image (no_uploads x)

-- The plain reading of the image is a valid spool of version 2.
pub record IsNewest (image : ℕ → ℕ) : Type 0 where
  pub view : View
  pub valid : IsValid view
  pub new : view.version ≡ Two
  pub is : IsViewOf image view

-- The crash images while a spool is made: page 0 as before, or torn, or the complete spool.
abbrev pub LeftByFormat : ℕ → IndexSet → (ℕ → ℕ) → (ℕ → Type 0) → (ℕ → ℕ) → Type 0
LeftByFormat n x current unsynced image = PrefixStays current unsynced image ⊎ FormatsTo n x image

-- Nothing was written.
abbrev pub IsRefusal : {T : Type 0} → Result T FormatError → Type 0
IsRefusal (Err AlreadySpool) = Unit {0}
IsRefusal (Err Size) = Unit {0}
IsRefusal (Err DiskFault) = ⊥
IsRefusal (Ok t) = ⊥
