-- What a crash might have left of a spool, from call to call.
use Rattle.std.proofs.Common.{◌≡◌, ◌≤◌, ◌*◌, ◌↔◌, inl, inr, ℕ, List, Some, refl, sym, ◌∙◌, ap, subst, arith, ⊎_elim}
use Rattle.spool_journal.specs.declared.TheConstants.{PAGE}
use Rattle.spool_disk.specs.Disk.{IsImage}
use Rattle.spool_disk.specs.Views.{Lasts}
use Rattle.spool_disk.specs.declared.disk.Disk.{Ghosts}
use Rattle.spool_journal.specs.Image.{all_pages}
use Rattle.upload_rules.specs.Answers.{Limits, Quiet}
use Rattle.upload_rules.specs.Store.{Store}
use Rattle.spool_image.specs.LeftOnly.{LeftOnly, ShowsOne, SpoolLeft}
use Rattle.spool_catalog.specs.Shows.{ImageShows}
use Rattle.spool_kept.specs.Stored.{ShowsEither}

-- of a spool that has n blocks, and as many after the call
module _ {D : Type 0} (disk : Ghosts D) (old new : D) (honest : disk.honest old ↔ disk.honest new)
    (long : disk.size new ≡ disk.size old)
    (n n' : ℕ) (size : n' ≡ n) where
  left_on : {P : (ℕ → ℕ) → Type 0} (t : ℕ) (ms : List Store) → Lasts disk old new P
      → ((image : ℕ → ℕ) → P image → ShowsOne n ms image) → t ≤ disk.moment old
      → LeftOnly disk old n t ms → LeftOnly disk new n' t ms
  left_on t ms lasts shows le left = subst (λ (k : ℕ). LeftOnly disk new k t ms) (sym size) (record {
    honest = honest.0 left.honest;
    room = subst (λ (k : ℕ). PAGE * all_pages n ≤ k) (sym long) left.room;
    each = λ image since. ⊎_elim (left.each image) (shows image) (lasts.nothing_else t image le since);
  })

  -- a call that leaves one of two stores
  pub limits_on : (before after : Store) → Lasts disk old new (ShowsEither n before after)
      → Limits (disk.moment old) (disk.moment new) (SpoolLeft disk old n) (SpoolLeft disk new n') before after
  limits_on before after lasts = record {
    later = lasts.later;
    limits = λ blocks t ms le left first second. (
      left.0 ∙ ap Some (sym size),
      left_on t ms lasts
          (λ image. elim [
            | inl is ↦ record { store = before; among = first; shows = is }
            | inr is ↦ record { store = after; among = second; shows = is }
          ]) le left.1,
    );
  }

  -- a call that leaves what shows the same as what a read gives
  pub quiet_shown : ((t : ℕ) (image : ℕ → ℕ) → t ≤ disk.moment old
      → IsImage (disk.current old) (disk.unsynced old) image
      → disk.left_since old t image)
      → Lasts disk old new (λ image. (k : ℕ) (m : Store) → ImageShows k (disk.current old) m → ImageShows k image m)
      → Quiet (disk.moment old) (disk.moment new) (SpoolLeft disk old n) (SpoolLeft disk new n')
  quiet_shown now lasts = record {
    later = lasts.later;
    limits = λ blocks t ms le left.
        let one = left.1.each (disk.current old) (now t
        (disk.current old) le record { same = λ p is_synced. refl }) in (
          left.0 ∙ ap Some (sym size),
          left_on t ms lasts (λ image same. record {
            store = one.store;
            among = one.among;
            shows = same n one.store one.shows;
          }) le left.1,
        );
  }

-- a call that only reads
pub quiet_read : {D : Type 0} (disk : Ghosts D) (old new : D) (honest : disk.honest old ↔ disk.honest new)
    (long : disk.size new ≡ disk.size old) (n : ℕ) → disk.moment old ≤ disk.moment new
    → ((t : ℕ) (image : ℕ → ℕ) → t ≤ disk.moment old → IsImage (disk.current old) (disk.unsynced old) image
    → disk.left_since old t image)
    → (disk.honest old → Lasts disk old new (IsImage (disk.current old) (disk.unsynced old)))
    → Quiet (disk.moment old) (disk.moment new) (SpoolLeft disk old n) (SpoolLeft disk new n)
quiet_read disk old new honest long n later now lasts = record {
  later = later;
  limits = λ blocks t ms le left. (
    left.0,
    record {
      honest = honest.0 left.1.honest;
      room = subst (λ (k : ℕ). PAGE * all_pages n ≤ k) (sym long) left.1.room;
      each = λ image since.
          left.1.each image (⊎_elim (λ before. before) (now t image le)
          ((lasts left.1.honest).nothing_else t image le since));
    },
  );
}

-- a call that leaves the disk
pub quiet_still : {D : Type 0} (disk : Ghosts D) (d : D) (n n' : ℕ) → n' ≡ n
    → Quiet (disk.moment d) (disk.moment d) (SpoolLeft disk d n) (SpoolLeft disk d n')
quiet_still disk d n n' size = record {
  later = omega arith;
  limits = λ blocks t ms le left. subst (λ (k : ℕ). SpoolLeft disk d k blocks t ms) (sym size) left;
}
