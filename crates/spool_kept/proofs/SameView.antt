-- Two views of one image have the same blocks and the same rows, and so what one leaves free the other does.
use Rattle.std.proofs.lemmas.Grind.{common_steps}
use Rattle.std.proofs.Common.{◌≡◌, ℕ, ◌+◌, ◌^◌, ◌<◌, List, Option, None, Some, get_or, refl}
use Rattle.std.proofs.Common.{sym, ◌∙◌, arith}
use Rattle.std.specs.Int.{to_be_bytes, w32}
use Rattle.std.proofs.Math.ListN.{get_or-eq_default}
use Rattle.std.proofs.lemmas.Bool.{cases_lt}
use Rattle.spool_journal.specs.declared.TheConstants.{PAGE}
use Rattle.spool_disk.specs.Disk.{IsImage}
use Rattle.spool_disk.specs.Views.{Lasts}
use Rattle.spool_disk.specs.declared.disk.Disk.{Ghosts}
use Rattle.spool_disk.proofs.Firm.{lasts_more}
use Rattle.spool_drafts.specs.Effect.{OnlyWrites}
use Rattle.spool_journal.specs.Image.{journal_pages, overlaid, text_page}
use Rattle.spool_texts.specs.Written.{aside_blocks}
use Rattle.spool_pages.specs.Fits.{FitsRow}
use Rattle.spool_pages.specs.Rests.{Rests, Unowned}
use Rattle.spool_pages.specs.View.{View, Encodes, AreAt, magic, first_page, row_bytes, IsViewOf}
use Rattle.spool_pages.proofs.RecordBytes.{at_beyond}
use Rattle.spool_pages.proofs.Resting.{rests_aside}
use Rattle.spool_pages.proofs.RowBytes.{slot_at, ordinal_at, free_at}
use Rattle.upload_rules.specs.Store.{Store}
use Rattle.spool_catalog.specs.Shows.{IsValid, ImageShows}
use Rattle.spool_catalog.proofs.Valid.{rows_cover, rows_fit, row_passes}

module _ (f : ℕ → ℕ) (at : ℕ) where
  one_number : (m n : ℕ) → m < 2 ^ 32 → n < 2 ^ 32 → AreAt f at 4 (to_be_bytes w32 m)
      → AreAt f at 4 (to_be_bytes w32 n) → m ≡ n
  one_number m n lt lt' a b = search (arith, common_steps)

module _ (f : ℕ → ℕ) (at : ℕ) where
  pairs : (o p : ℕ × ℕ) → o.0 ≡ p.0 → o.1 ≡ p.1 → ◌≡◌ {A = Option (ℕ × ℕ)} (Some o) (Some p)
  pairs o p e e' = rw (e, e') refl

  one_row : (a b : Option (ℕ × ℕ)) → FitsRow a → FitsRow b → AreAt f at 8 (row_bytes a) → AreAt f at 8 (row_bytes b)
      → a ≡ b
  one_row None None fits fits' s s' = refl
  one_row None (Some p) fits fits' s s' =
      let one = one_number f at 0 (p.0 + 1) (omega arith) fits'.0 (free_at f at s) (slot_at f at p.0 p.1 s') in
      absurd (omega (arith, one))
  one_row (Some o) None fits fits' s s' =
      let one = one_number f at 0 (o.0 + 1) (omega arith) fits.0 (free_at f at s') (slot_at f at o.0 o.1 s) in
      absurd (omega (arith, one))
  one_row (Some o) (Some p) fits fits' s s' =
      let slot = one_number f at (o.0 + 1) (p.0 + 1) fits.0 fits'.0 (slot_at f at o.0 o.1 s)
      (slot_at f at p.0 p.1 s') in
      pairs o p (omega (arith, slot))
      (one_number f (at + 4) o.1 p.1 fits.1 fits'.1 (ordinal_at f at o.0 o.1 s) (ordinal_at f at p.0 p.1 s'))

module _ (f : ℕ → ℕ) (v v' : View) (valid : IsValid v) (valid' : IsValid v') (encodes : Encodes f v)
    (encodes' : Encodes f v') where
  number_at : (n : ℕ) → AreAt f 0 PAGE (first_page n) → AreAt f 8 4 (to_be_bytes w32 n)
  unfolding first_page
  number_at n represents =
      let prefix : AreAt f 0 12 (first_page n) = record { each = λ i lt. represents.each i (omega (arith, lt)) } in
      at_beyond magic (to_be_bytes w32 n) 8 4 refl (omega arith) prefix

  same_blocks : v.blocks ≡ v'.blocks
  same_blocks = one_number f 8 v.blocks v'.blocks (omega (arith, valid.most)) (omega (arith, valid'.most))
      (number_at v.blocks encodes.first) (number_at v'.blocks encodes'.first)

  same_row : (b : ℕ) → get_or v.rows b None ≡ get_or v'.rows b None
  same_row b =
      grind (arith, common_steps, cases_lt, rows_cover, one_row, rows_fit, row_passes, same_blocks, get_or-eq_default)

-- a spool at rest rests with whatever view its bytes have
pub rests_other : {current : ℕ → ℕ} {unsynced : ℕ → Type 0} (v v' : View) → IsValid v → IsValid v'
    → Encodes (overlaid current) v → Rests v current unsynced → IsViewOf current v' → Rests v' current unsynced
rests_other {current = current} v v' valid valid' encodes rests is = grind (arith, common_steps, same_blocks, same_row)

-- Whatever the resting bytes show, an image shows that differs from them only in blocks that no row owns.
pub shows_aside : {current : ℕ → ℕ} {unsynced : ℕ → Type 0} (v : View) (own : List ℕ) (n : ℕ) (image : ℕ
    → ℕ) (m : Store) → IsValid v → v.blocks ≡ n → Rests v current unsynced → Unowned v.rows own
    → IsImage current unsynced (aside_blocks (text_page n) own current image) → (k : ℕ) → ImageShows k current m
    → ImageShows k image m
shows_aside {current = current} v own n image m valid size rests unowned is k shown =
    let v' = shown.view in
    let blocks = same_blocks (overlaid current) v v' valid shown.shows.valid rests.is.encodes shown.is.encodes in
    record {
      view = v';
      blocks = shown.blocks;
      is = rests_aside own image (sym blocks ∙ size) (rests_other v v' valid shown.shows.valid rests.is.encodes rests
          shown.is) (λ i lt. sym (same_row (overlaid current) v v' valid shown.shows.valid rests.is.encodes
          shown.is.encodes
          (get_or own i 0)) ∙ unowned i lt) is;
      shows = shown.shows;
    }

-- and so a call that writes only such blocks leaves what shows
pub shows_still : {D : Type 0} (disk : Ghosts D) (d d' : D) (v : View) (own : List ℕ) (n : ℕ)
    → OnlyWrites disk (journal_pages n) own d d' → IsValid v → v.blocks ≡ n → Rests v (disk.current d) (disk.unsynced d)
    → Unowned v.rows own
    → Lasts disk d d' (λ image. (k : ℕ) (m : Store) → ImageShows k (disk.current d) m → ImageShows k image m)
shows_still disk d d' v own n only valid size rests unowned =
    lasts_more only.lasts (λ image is k m shown. shows_aside v own n image m valid size rests unowned is k shown)
