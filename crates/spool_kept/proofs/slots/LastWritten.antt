-- The last bytes of a longer upload's text come onto its blocks.
use Rattle.std.proofs.Common.{◌≡◌, ℕ, ◌+◌, ◌/◌, ◌≤◌, List, Option, length, refl, sym, subst, Bool, true}
use Rattle.spool_journal.specs.declared.TheConstants.{PAGE}
use Rattle.spool_blocks.specs.Blocks.{Row}
use Rattle.spool_disk.specs.declared.disk.Disk.{Ghosts}
use Rattle.spool_disk.specs.Views.{Lasts}
use Rattle.spool_disk.proofs.Firm.{lasts_more}
use Rattle.spool_journal.specs.Image.{journal_pages, text_page}
use Rattle.spool_drafts.specs.Effect.{OnlyWrites}
use Rattle.spool_pages.proofs.Resting.{rests_aside}
use Rattle.spool_pages.specs.Rests.{Unowned}
use Rattle.spool_texts.specs.Drafts.{IsReserved, bytes_with}
use Rattle.spool_texts.specs.TextOn.{text_on}
use Rattle.upload_rules.specs.Store.{Store}
use Rattle.spool_kept.specs.Extending.{IsAppend, IsPending}
use Rattle.spool_catalog.specs.Holding.{Holding}
use Rattle.spool_catalog.specs.Shows.{ImageShows}
use Rattle.spool_kept.specs.Stored.{Stored}
use Rattle.spool_catalog.specs.declared.longer.Longer.{Longer}
use Rattle.spool_kept.proofs.drafts.DraftLonger.{moved}

module _ {D : Type 0} {sure : Bool} {disk : Ghosts D} {d : D} (mid : D) {h : Holding} {m : Store} {n : ℕ}
    {declare : Option ℕ} {bytes : List ℕ} {longer : Longer} {more last : List ℕ}
    (pending : IsPending sure disk d h m n declare bytes longer more last) (reserved : IsReserved h.blocks more)
    (only : sure ≡ true → OnlyWrites disk (journal_pages h.layout) more d mid) where
  abbrev s : Stored sure disk d h m
  s = pending.stored

  unowned : Unowned s.view.rows more
  unowned = subst (λ (rows : List Row). Unowned rows more) s.has_view.rows reserved.no_owner

  pub shown : sure ≡ true → Lasts disk d mid (λ image. ImageShows h.layout image m)
  shown known = lasts_more (only known).lasts (λ image is. record {
    view = s.view;
    blocks = sym s.has_view.blocks;
    is = rests_aside more image (sym s.has_view.blocks) (s.rests known) unowned is;
    shows = s.shows;
  })

  pub appended : (disk.honest d → disk.honest mid) → (sure ≡ true → (length last + 4095) / PAGE ≤ length more
      → text_on (disk.current mid) (text_page h.layout) more
      (length (bytes_with (disk.current d) (text_page h.layout) more last)) ≡ bytes_with (disk.current d)
      (text_page h.layout) more last) → IsAppend sure disk mid h m n declare bytes longer more
  appended honest written =
      pending.append mid (moved mid s (record { same = refl; rows = refl }) honest more unowned refl (λ known. (only
      known).writes)) (λ known some. rw (pending.held known some) at (written known (pending.fits some)))
