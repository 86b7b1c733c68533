-- Rows after a slot's blocks became free.
use Rattle.std.proofs.lemmas.Grind.{common_steps}
use Rattle.std.proofs.Common.{◌≡◌, ℕ, ◌<◌, List, None, length, get_or, arith, []}
use Rattle.common.specs.declared.limits.TheConstants.{SLOTS}
use Rattle.spool_blocks.specs.Blocks.{Row}
use Rattle.spool_blocks.specs.Chains.{Owns, OwnsOneEach}
use Rattle.spool_texts.specs.TextOn.{IsListed}
use Rattle.spool_pages.specs.Changes.{SameRowsBut}
use Rattle.spool_pages.specs.Fits.{FitsRow}
use Rattle.spool_catalog.specs.Rows.{SameOthers, HandsOver}
use Rattle.spool_catalog.specs.Rows.{FreesRows}
use Rattle.spool_catalog.proofs.slots.HandedOver.{fit_now, others_same, rows_but_last}
use Rattle.spool_pages.specs.Rests.{Unowned}

module _ (slot : ℕ) (old new : List Row) (frees : FreesRows slot old new) where
  -- all of its blocks were handed back, and it got none
  hands : HandsOver old slot 0 [] new
  hands = record {
    size = frees.size;
    listed = λ i lt. absurd (omega (arith, lt));
    freed = λ b k not from owns. frees.freed b k owns;
    preserved = λ b not none. frees.preserved b (λ k owns. none k (omega arith) owns);
  }

  nobody : Unowned old []
  nobody i lt = absurd (omega (arith, lt))

  -- no block is the slot's
  pub none_owned : (b k : ℕ) → Owns new b slot k → ⊥
  none_owned b k owns = search (arith, common_steps)

  pub others_stay : SameOthers slot old new
  others_stay = others_same old slot 0 [] new hands nobody

  -- rows that fit their bytes still do
  pub rows_still_fit : slot < SLOTS → ((b : ℕ) → FitsRow (get_or old b None)) → (b : ℕ) → FitsRow (get_or new b None)
  rows_still_fit few = fit_now old slot 0 [] new hands nobody few (omega arith)

  -- the rows differ only where the slot's blocks are
  pub rows_but_own : (n : ℕ) (list : List ℕ) → OwnsOneEach old slot n → IsListed old slot list → length list ≡ n
      → SameRowsBut list old new
  rows_but_own = rows_but_last old slot 0 [] new hands nobody
