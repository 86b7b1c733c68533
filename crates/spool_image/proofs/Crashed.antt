-- What a disk that a crash left shows.
use Rattle.std.proofs.Common.{◌≡◌, ℕ, Some, sym, subst}
use Rattle.spool_disk.specs.declared.disk.Disk.{Ghosts}
use Rattle.spool_load.proofs.Opens.{same_function}
use Rattle.spool_image.specs.LeftOnly.{AllShow, IsSpool}
use Rattle.spool_image.specs.Texts.{HasText}
use Rattle.spool_catalog.specs.Shows.{ImageShows, IsRecordOf}
use Rattle.upload_rules.specs.Store.{Store, Upload, upload_of}

-- where all of a disk is synced, each image shows what a read does
pub synced_shows : {D : Type 0} (disk : Ghosts D) (d : D) (n : ℕ) (m : Store) → IsSpool disk d n m
    → ((p : ℕ) → disk.unsynced d p → ⊥) → AllShow disk d n m
synced_shows disk d n m is is_synced = record {
  honest = is.honest;
  room = is.room;
  each = λ image left.
      let same : (p : ℕ) → image p ≡ disk.current d p = λ p. left.same p (is_synced p) in
      subst (λ (f : ℕ → ℕ). ImageShows n f m) (sym (same_function image (disk.current d) same)) is.shows;
}

-- the upload that a slot represents is that of its number
recorded_upload : (m : Store) (k number : ℕ) (u recorded : Upload) → number ≡ k → upload_of m number ≡ Some recorded
    → upload_of m k ≡ Some u → recorded ≡ u
recorded_upload m k number u recorded same there is =
    let there' : upload_of m k ≡ Some recorded = subst (λ (j : ℕ). upload_of m j ≡ Some recorded) same there in cc

-- the text of each upload is in an image that shows it
pub text_shown : (n : ℕ) (image : ℕ → ℕ) (m : Store) (k : ℕ) (u : Upload) → ImageShows n image m
    → upload_of m k ≡ Some u
    → HasText image m.indexes k u
text_shown n image m k u shows is =
    let has = shows.shows.all k u is in
    let recorded = shows.shows.recorded has.slot has.used has.there in
    let represents = subst (IsRecordOf m.indexes has.used (shows.view.texts has.slot))
    (recorded_upload m k has.used.number u recorded.upload has.number recorded.there is) recorded.represents in
    record {
      view = shows.view;
      is = shows.is;
      slot = has.slot;
      used = has.used;
      there = has.there;
      number = has.number;
      accepted = represents.accepted;
      text = represents.text;
      encodable = represents.encodable;
    }
