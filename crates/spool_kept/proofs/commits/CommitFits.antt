-- The drafts that a commit leaves fit the catalog.
use Rattle.std.proofs.Common.{◌≡◌, ℕ, List, Option, None, Some, get_or, set, refl, ◌∙◌, ap}
use Rattle.spool_blocks.specs.Blocks.{Held}
use Rattle.spool_drafts.specs.Drafts.{IsTailPlaced, list_of}
use Rattle.spool_drafts.specs.declared.draft.SpoolDraft.{SpoolDraft}
use Rattle.spool_pages.specs.View.{SlotRecord}
use Rattle.spool_texts.specs.Drafts.{GivesBack, IsReserved}
use Rattle.spool_kept.specs.Drafting.{DraftsFit, OnlyReserves}
use Rattle.spool_kept.specs.Extending.{Advances}
use Rattle.spool_catalog.specs.Longer.{HandsOn, HasLonger}
use Rattle.spool_catalog.specs.Holding.{Holding}
use Rattle.spool_catalog.specs.declared.longer.Longer.{Longer}
use Rattle.spool_kept.proofs.drafts.DraftSpent.{fit_given, fit_handed, rows_handed}
use Rattle.spool_kept.proofs.drafts.OfUploads.{fits_put, fits_spent}
use Rattle.spool_kept.proofs.drafts.DraftLonger.{WentOn}

-- the draft was ended: it may have reserved more
module _ {h mid : Holding} (only : OnlyReserves h mid) {drafts : List (Option SpoolDraft)} (fit : DraftsFit h drafts)
    {number : ℕ} {o o' : SpoolDraft} (on : WentOn h.blocks mid.blocks drafts number o o' (set drafts number (Some o')))
    (reserved : IsReserved mid.blocks (list_of o')) (placed : IsTailPlaced h.layout o') where
  -- its blocks are given back
  pub fits_given : (h' : Holding) (blocks : Held) → h' ≡ mid → GivesBack h'.blocks blocks (list_of o')
      → DraftsFit (record h' { blocks = blocks }) (set drafts number None)
  fits_given h' blocks same gives =
      let is = same ∙ only.same in
      fits_spent h (record h' { blocks = blocks }) drafts (set drafts number None) number refl (cc) (cc)
      (rw (← (ap (λ (k : Holding). k.layout) is)) at
      (fit_given fit.blocks on reserved placed blocks (rw same at gives))) fit

  -- they are the longer upload's
  pub fits_handed : (h' : Holding) (longer : Longer) (used : SlotRecord) (more : List ℕ) → more ≡ list_of o'
      → get_or mid.slots longer.slot None ≡ Some used → Advances used longer
      → HandsOn mid.blocks.reserved h'.blocks.reserved more → HasLonger mid used longer more h'
      → DraftsFit h' (set drafts number None)
  fits_handed h' longer used more list there grows hands_more longer_more =
      let is : HasLonger mid used longer (list_of o') h' = rw list at longer_more in
      fits_put h h' drafts number longer used (cc) grows (cc) (cc)
      (rw (← (is.layout ∙ ap (λ (k : Holding). k.layout) only.same)) at (fit_handed fit.blocks on reserved placed
      h'.blocks (rw list at hands_more) (rows_handed mid h' used longer (list_of o') is))) fit
