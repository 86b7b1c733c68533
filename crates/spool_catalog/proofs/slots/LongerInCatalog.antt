-- The catalog, with a longer upload, fits together.
use Rattle.std.proofs.lemmas.Grind.{common_steps}
use Rattle.std.proofs.Common.{◌≡◌, ℕ, ◌+◌, ◌/◌, ◌<◌, ◌≤◌, List, [], ◌++◌, None, Some, length, get_or, set, take, drop}
use Rattle.std.proofs.Common.{refl, ◌∙◌, arith}
use Rattle.std.proofs.lemmas.List.{get_or-set_other, get_or-set_same, get_or-drop, length-set}
use Rattle.spool_journal.specs.declared.TheConstants.{PAGE}
use Rattle.common.specs.declared.limits.TheConstants.{MOST_BLOCKS, SLOTS}
use Rattle.upload_rules.specs.Room.{blocks_of}
use Rattle.spool_blocks.specs.Blocks.{Held}
use Rattle.spool_blocks.proofs.Counts.{within}
use Rattle.spool_texts.proofs.Reserves.{in_either}
use Rattle.spool_texts.specs.Drafts.{IsReserved}
use Rattle.spool_pages.specs.View.{SlotRecord}
use Rattle.spool_catalog.specs.Rows.{HandsOver}
use Rattle.spool_catalog.specs.Holding.{Holding, FitsTogether, HasBlocks}
use Rattle.spool_catalog.proofs.slots.Members.{nothing_reserved}
use Rattle.spool_catalog.proofs.slots.SlotFits.{same_others}
use Rattle.spool_catalog.proofs.slots.SlotFits.{IsReordered, changed_fits}
use Rattle.spool_catalog.proofs.slots.HandedOver.{room_for, others_same, owned_now, fit_now, joined_length}
use Rattle.spool_catalog.proofs.Valid.{in_use}

module _ (h : Holding) (fits : FitsTogether h) (slot : ℕ) (r : SlotRecord)
    (there : get_or h.slots slot None ≡ Some r) where
  inside : slot < length h.slots
  inside = in_use h.slots slot r there

  pub slot_few : slot < SLOTS
  slot_few = omega (arith, inside, fits.slot_count)

  pub has : HasBlocks h.blocks.rows slot r.text_len (get_or h.lists slot [])
  has = rw there at (fits.listed slot slot_few)

  pub low : r.text_len / PAGE ≤ length (get_or h.lists slot [])
  low = omega (arith, has.size)

  -- there are ordinals for reserved blocks after the full ones
  pub room_of : {more : List ℕ} → IsReserved h.blocks more → r.text_len / PAGE + length more ≤ length h.blocks.rows
  room_of {more = more} held = room_for h.blocks.rows slot (r.text_len / PAGE) (get_or h.lists slot []) more has.owned
      low held.no_owner held.below held.distinct

  pub full_few : length h.blocks.rows ≤ MOST_BLOCKS → r.text_len / PAGE ≤ MOST_BLOCKS
  full_few few = omega (arith, room_of (nothing_reserved h.blocks [] refl), few)

  module _ (r' : SlotRecord) (number : r'.number ≡ r.number) where
    numbered : (q : SlotRecord) → Some r' ≡ Some q → (q.number ≡ r.number) × (r.number < h.next)
    numbered q e = search (arith, common_steps)

    same_order : IsReordered slot r.number (Some r') h.order h.order
    same_order = search (arith, common_steps)

    -- the text stays
    pub fits_same : r'.text_len ≡ r.text_len → FitsTogether (record h { slots = set h.slots slot (Some r') })
    fits_same len =
        changed_fits h fits slot r.number (Some r') slot_few h.next (omega arith) numbered h.order same_order h.blocks
        refl (same_others slot h.blocks.rows h.blocks.rows refl) fits.rows_fit h.lists fits.list_count
        (λ s other. refl) (rw len has)

    -- blocks are handed over
    module _ (more : List ℕ) (blocks : Held) (hands : HandsOver h.blocks.rows slot (r.text_len / PAGE) more blocks.rows)
        (held : IsReserved h.blocks more) (size : blocks_of r'.text_len ≡ r.text_len / PAGE + length more)
        (few : length h.blocks.rows ≤ MOST_BLOCKS) where
      has_now : HasBlocks blocks.rows slot r'.text_len (take (r.text_len / PAGE) (get_or h.lists slot []) ++ more)
      has_now = record {
        size = omega (arith, size, joined_length (get_or h.lists slot []) more (r.text_len / PAGE) low);
        owned = owned_now h.blocks.rows slot (r.text_len / PAGE) more blocks.rows hands held.no_owner
            (get_or h.lists slot []) low has.owned;
      }

      pub fits_longer : FitsTogether (record h {
        slots = set h.slots slot (Some r');
        lists = set h.lists slot (take (r.text_len / PAGE) (get_or h.lists slot []) ++ more);
        blocks = blocks;
      })
      fits_longer =
          let xs = take (r.text_len / PAGE) (get_or h.lists slot []) ++ more in
          changed_fits h fits slot r.number (Some r') slot_few h.next (omega arith) numbered h.order same_order blocks
          hands.size (others_same h.blocks.rows slot (r.text_len / PAGE) more blocks.rows hands held.no_owner)
          (fit_now h.blocks.rows slot (r.text_len / PAGE) more blocks.rows hands held.no_owner slot_few
          (omega (arith, room_of held, few)) fits.rows_fit)
          (set h.lists slot xs) (length-set h.lists slot xs ∙ fits.list_count)
          (λ s other. get_or-set_other h.lists slot s xs [] other)
          (rw (get_or-set_same h.lists slot xs [] (omega (arith, slot_few, fits.list_count))) has_now)

  -- the blocks whose rows change are there
  pub changed_below : (more : List ℕ) → ((i : ℕ) → i < length more → get_or more i 0 < length h.blocks.rows)
      → (i : ℕ) → i < length (more ++ drop (r.text_len / PAGE) (get_or h.lists slot []))
      → get_or (more ++ drop (r.text_len / PAGE) (get_or h.lists slot [])) i 0 < h.layout
  changed_below more below i lt = rw fits.row_count at (in_either (λ (b : ℕ). b < length h.blocks.rows) more
      (drop (r.text_len / PAGE) (get_or h.lists slot [])) below tail i lt)
    where
      tail : (k : ℕ) → k < length (drop (r.text_len / PAGE) (get_or h.lists slot []))
          → get_or (drop (r.text_len / PAGE) (get_or h.lists slot [])) k 0 < length h.blocks.rows
      tail k lt = search (arith, common_steps, common_steps, get_or-drop, within, has)
