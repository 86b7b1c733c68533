-- From the uploads of a spool to its disk.
use Rattle.std.proofs.Common.{◌≡◌, ◌≤◌, ⊎_elim, inl, inr, arith, subst, sym, ℕ, List, [], ◌∷◌, Option, Some}
use Rattle.std.proofs.Common.{Result, Ok, Err, IsOk, OnOk}
use Rattle.spool_disk.specs.Disk.{IsImage}
use Rattle.spool_disk.specs.Views.{Lasts}
use Rattle.spool_disk.specs.declared.disk.Disk.{Ghosts}
use Rattle.upload_rules.specs.Answers.{Among}
use Rattle.upload_rules.specs.Store.{Store}
use Rattle.spool_catalog.specs.Shows.{ImageShows}
use Rattle.spool_image.specs.LeftOnly.{AllShow, LeftOnly, LeftOrShows, ShowsOne, SpoolLeft}
use Rattle.gateway_outside.specs.Changing.{LimitsToAll}
use Rattle.gateway_outside.specs.Leaving.{LastsOverOpening}

pub when_ok : {T E : Type 0} (result : Result T E) (P : Type 0) → IsOk result → OnOk result P → P
when_ok (Ok t) P ok on = on
when_ok (Err e) P ok on = absurd (cc)

shows_one : (n : ℕ) (m : Store) (image : ℕ → ℕ) → ShowsOne n (m ∷ []) image → ImageShows n image m
shows_one n m image one = elim one.among [
  | inl is ↦ rw is at one.shows
  | inr never ↦ absurd never
]

-- an image of now is one that might have been left since any moment that isn't to come
abbrev pub CountsNow : {D : Type 0} → Ghosts D → D → Type 0
CountsNow disk d = (t : ℕ) (image : ℕ → ℕ) → t ≤ disk.moment d → IsImage (disk.current d) (disk.unsynced d) image
    → disk.left_since d t image

-- a spool's images, by the given number of blocks
left_shows : {D : Type 0} (disk : Ghosts D) (d : D) (k n t : ℕ) (ms : List Store) → SpoolLeft disk d k (Some n) t ms
    → LeftOnly disk d n t ms
left_shows disk d k n t ms left = let size : k ≡ n = cc left.0 in rw size at left.1

-- where only these uploads are left since now, each image of now shows them
pub all_show : {D : Type 0} (disk : Ghosts D) (d : D) (k n : ℕ) (m : Store) → CountsNow disk d
    → SpoolLeft disk d k (Some n) (disk.moment d) (m ∷ []) → AllShow disk d n m
all_show disk d k n m now answer_is =
    let left = left_shows disk d k n (disk.moment d) (m ∷ []) answer_is in
    record {
      honest = left.honest;
      room = left.room;
      each = λ image is. shows_one n m image (left.each image (now (disk.moment d) image (omega arith) is));
    }

module _ {D : Type 0} (disk : Ghosts D) (before opened now : D) (k k' n : ℕ) (m : Store) (stores : List Store)
    (counts : CountsNow disk before) (opening : Lasts disk before opened (LeftOrShows disk before n m))
    (shown : AllShow disk opened n m) (first : Among m stores)
    (durable : SpoolLeft disk opened k (Some n) (disk.moment opened) stores)
    (limits : LimitsToAll (disk.moment opened) (disk.moment now) (λ blocks t ms. SpoolLeft disk opened k blocks t ms)
    (λ blocks t ms. SpoolLeft disk now k' blocks t ms) stores) where
  -- what was limited to before it was opened still is
  opened_left : (t : ℕ) (ms : List Store) → t ≤ disk.moment before → Among m ms → LeftOnly disk before n t ms
      → SpoolLeft disk opened k (Some n) t ms
  opened_left t ms le among left = let size : k ≡ n = cc durable.0 in (
    durable.0,
    rw size (record {
      honest = shown.honest;
      room = shown.room;
      each = λ image since. ⊎_elim (left.each image)
          (λ one. ⊎_elim (λ is. left.each image (counts t image le is))
          (λ shows. record { store = m; among = among; shows = shows }) one)
          (opening.nothing_else t image le since);
    }),
  )

  pub lasts_over : LastsOverOpening disk before now n m stores
  lasts_over = record {
    opened = opened;
    opening = opening;
    shown = shown;
    later = limits.later;
    since = left_shows disk now k' n (disk.moment opened) stores
        (limits.limits (Some n) (disk.moment opened) stores (omega arith) durable (λ x among. among));
    always = λ t ms le left among.
        left_shows disk now k' n t ms
        (limits.limits (Some n) t ms (let a = opening.later in omega (arith, le, a))
        (opened_left t ms le (among m first) left) among);
  }
