-- Uploads by their numbers.
use Rattle.std.proofs.Common.{ℕ, arith}
use Rattle.std.specs.Prelude.{◌≡◌, Some, map}
use Rattle.spool_disk.specs.declared.disk.Disk.{Ghosts}
use Rattle.upload_rules.specs.Slots.{IsRising}
use Rattle.upload_rules.specs.Store.{Store, Upload, find}
use Rattle.spool_pages.specs.View.{View}
use Rattle.spool_catalog.specs.Shows.{Shows}
use Rattle.spool_image.specs.LeftOnly.{IsSpool}

-- the uploads are in the order of their numbers, from 1 on
pub record IsInOrder (m : Store) : Type 0 where
  pub rising : IsRising (map (λ e. e.0) m.uploads)
  pub some : (u : Upload) → find 0 m.uploads ≡ Some u → ⊥

-- those that a view shows are
pub shown_in_order : (v : View) (m : Store) → Shows v m → IsInOrder m
shown_in_order v m shows = record {
  rising = shows.rising;
  some = λ u there.
      let slot = shows.all 0 u there in
      let least = (shows.valid.records slot.slot slot.used slot.there).some in
      let number = slot.number in
      absurd (omega (arith, least, number));
}

pub in_order : {D : Type 0} (disk : Ghosts D) (d : D) (n : ℕ) (m : Store) → IsSpool disk d n m → IsInOrder m
in_order disk d n m is = shown_in_order is.shows.view m is.shows.shows
