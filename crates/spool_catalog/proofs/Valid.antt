-- What a slot and a row of a valid view are.
use Rattle.std.proofs.lemmas.Grind.{common_steps}
use Rattle.std.proofs.Common.{◌≡◌, ℕ, ◌+◌, ◌-◌, ◌*◌, ◌^◌, ◌<◌, ◌≤◌, refl, subst, List, Option, None, Some}
use Rattle.std.proofs.Common.{length, get_or, ltb, true, sym, ◌∙◌, ap, arith}
use Rattle.std.proofs.lemmas.Bool.Decides.{nat_tests}
use Rattle.common.specs.declared.limits.TheConstants.{ROWS, SLOTS}
use Rattle.upload_rules.specs.Room.{blocks_of}
use Rattle.spool_pages.specs.View.{View, SlotRecord, Encodes, AreAt, slot_at, slot_bytes, row_bytes, index_place}
use Rattle.spool_pages.specs.View.{slot_place, row_place}
use Rattle.spool_pages.specs.Fits.{FitsSlotOf, FitsRow}
use Rattle.enc_index.specs.Area.{area_byte}
use Rattle.spool_journal.specs.Image.{journal_pages}
use Rattle.spool_catalog.specs.Records.{FitsCatalog}
use Rattle.spool_catalog.specs.Holding.{AreDistinct}
use Rattle.spool_blocks.specs.Chains.{OwnsOneEach}
use Rattle.spool_catalog.specs.Shows.{IsValid, IsValidRecord, IsOwned}

module _ (v : View) (valid : IsValid v) (slots : List (Option SlotRecord)) (same : slots ≡ v.slots) where
  there : (s : ℕ) (o : Option SlotRecord) → get_or slots s None ≡ o → slot_at v s ≡ o
  there s o e = ap (λ (xs : List (Option SlotRecord)). get_or xs s None) (sym same) ∙ e

  pub slots_distinct : AreDistinct slots
  slots_distinct s t r q e f same_number = valid.distinct s t r q (there s (Some r) e) (there t (Some q) f) same_number

  pub slot_owns : (s : ℕ) (r : SlotRecord) → get_or slots s None ≡ Some r → OwnsOneEach v.rows s (blocks_of r.text_len)
  slot_owns s r e = valid.lists s r (there s (Some r) e)

  pub row_below : (b s k : ℕ) (r : SlotRecord) → get_or v.rows b None ≡ Some (s, k) → get_or slots s None ≡ Some r
      → k < blocks_of r.text_len
  row_below b s k r owns e = (valid.lists s r (there s (Some r) e)).only b k owns

pub is_less : (a b : ℕ) → a < b → ltb a b ≡ true
is_less a b h = grind (arith, nat_tests)

-- WHERE IT IS, for n blocks

module _ (bytes : ℕ → ℕ) (v : View) (n : ℕ) (blocks : v.blocks ≡ n) (encodes : Encodes bytes v) where
  pub area_passes : (i : ℕ) → i < 90112 → bytes (index_place n + i) ≡ area_byte v.indexes i
  area_passes i lt = subst (λ (m : ℕ). bytes (index_place m + i) ≡ area_byte v.indexes i) blocks (encodes.area i lt)

  pub slot_passes : (s : ℕ) → s < SLOTS → AreAt bytes (slot_place n s) 2048 (slot_bytes v.version (slot_at v s))
  slot_passes s lt = rw blocks at (encodes.slots s lt)

  pub row_passes : (b : ℕ) → b < ROWS * (journal_pages n - 257) → AreAt bytes (row_place n b) 8
      (row_bytes (get_or v.rows b None))
  row_passes b lt =
      let P : ℕ → Type 0 = λ m. b < ROWS * (journal_pages m - 257) → AreAt bytes (row_place m b) 8
      (row_bytes (get_or v.rows b None)) in
      subst P blocks (encodes.rows b) lt

-- WHAT FITS

slot_from : (o : Option SlotRecord) → ((r : SlotRecord) → o ≡ Some r → FitsCatalog (Some r)) → FitsCatalog o
slot_from None fits = tt
slot_from (Some r) fits = fits r refl

row_from : (o : Option (ℕ × ℕ)) → ((p : ℕ × ℕ) → o ≡ Some p → FitsRow (Some p)) → FitsRow o
row_from None fits = tt
row_from (Some p) fits = fits p refl

pub fits_slot : (o : Option SlotRecord) → FitsCatalog o → FitsSlotOf o
fits_slot None fits = tt
fits_slot (Some r) fits = fits.0

record_fits : (next : ℕ) → next ≤ 10 ^ 18 → (r : SlotRecord) → IsValidRecord next r → FitsCatalog (Some r)
record_fits next most r is = search (arith, common_steps)

pub slots_fit : (v : View) → IsValid v → (s : ℕ) → FitsCatalog (slot_at v s)
slots_fit v valid s = slot_from (slot_at v s) (λ r e. record_fits v.next valid.next_most r (valid.records s r e))

pub in_use : {A : Type 0} (xs : List (Option A)) (s : ℕ) (r : A) → get_or xs s None ≡ Some r → s < length xs
in_use xs s r e = search (arith, common_steps)

pub rows_fit : (v : View) → IsValid v → (b : ℕ) → FitsRow (get_or v.rows b None)
rows_fit v valid b = row_from (get_or v.rows b None) (λ p e.
    let owned : IsOwned v p.0 p.1 = valid.owners b p.0 p.1 e in
    let lt : p.0 < length v.slots = in_use v.slots p.0 owned.used owned.there in
    (omega (arith, lt, valid.slot_count), owned.fits))

-- the pages of rows hold a row for each block
pub rows_cover : (n : ℕ) → n ≤ ROWS * (journal_pages n - 257)
unfolding journal_pages
rows_cover n = omega arith
