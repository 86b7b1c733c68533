-- The catalog, with an upload taken out, fits together.
use Rattle.std.proofs.lemmas.Grind.{common_steps}
use Rattle.std.proofs.Common.{◌≡◌, ℕ, ◌<◌, List, [], None, Some, length, get_or, set, ◌∙◌, arith}
use Rattle.std.proofs.lemmas.List.{get_or-set_other, get_or-set_same, length-set}
use Rattle.common.specs.declared.limits.TheConstants.{SLOTS}
use Rattle.spool_blocks.specs.Blocks.{Held}
use Rattle.spool_pages.specs.View.{SlotRecord}
use Rattle.spool_catalog.specs.declared.order.NumberedSlot.{NumberedSlot}
use Rattle.spool_catalog.specs.Holding.{Holding, FitsTogether, IsUsedBy}
use Rattle.spool_catalog.specs.Rows.{FreesRows}
use Rattle.spool_catalog.specs.TakenOut.{IsWithout}
use Rattle.spool_catalog.proofs.slots.Freed.{others_stay, rows_still_fit}
use Rattle.spool_catalog.proofs.numbers.Ordered.{orders_distinct}
use Rattle.spool_catalog.proofs.slots.SlotFits.{changed_fits}
use Rattle.spool_catalog.proofs.slots.LongerInCatalog.{slot_few}

module _ (h : Holding) (slot number : ℕ) (fits : FitsTogether h) (used : IsUsedBy h.slots slot number) where
  pub slot_below : slot < SLOTS
  slot_below = slot_few h fits slot used.used used.there

  -- the blocks of its text are there
  pub listed_below : (i : ℕ) → i < length (get_or h.lists slot []) → get_or (get_or h.lists slot []) i 0 < h.layout
  listed_below i lt = search (arith, common_steps)

  -- the number is in that slot alone
  pub only_there : (s : ℕ) (q : SlotRecord) → get_or h.slots s None ≡ Some q → q.number ≡ number → s ≡ slot
  only_there s q there is =
      orders_distinct h.slots h.order fits.slot_count fits.ordered s slot q used.used there used.there (cc)

  pub fits_without : (order : List NumberedSlot) (blocks : Held) → IsWithout h.order number order
      → FreesRows slot h.blocks.rows blocks.rows
      → FitsTogether (record h {
        slots = set h.slots slot None;
        order = order;
        lists = set h.lists slot [];
        blocks = blocks;
      })
  fits_without order blocks is frees =
      changed_fits h fits slot number None slot_below h.next (omega arith) (λ q e. absurd cc) order
      record {
        rises = is.rises;
        there = λ q e. absurd cc;
        preserved = λ k s other l.
            let u = fits.ordered.names k s l in
            is.preserved k s (λ same. other (only_there s u.used u.there (u.is ∙ same))) l;
        only = search (arith, common_steps);
      } blocks frees.size (others_stay slot h.blocks.rows blocks.rows frees)
      (rows_still_fit slot h.blocks.rows blocks.rows frees slot_below fits.rows_fit) (set h.lists slot [])
      (length-set h.lists slot [] ∙ fits.list_count) (λ s other. get_or-set_other h.lists slot s [] [] other)
      (get_or-set_same h.lists slot [] [] (omega (arith, slot_below, fits.list_count)))
