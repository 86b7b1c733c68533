-- A valid view, of what was read and what was checked of it.
use Rattle.std.proofs.Common.{◌≡◌, ℕ, Bool, ◌+◌, ◌-◌, ◌*◌, ◌<◌, ◌≤◌, List, [], Option, None, Some}
use Rattle.std.proofs.Common.{false, replicate, length, get_or, refl, sym, subst, ap, ◌∙◌, arith}
use Rattle.spool_journal.specs.declared.TheConstants.{PAGE}
use Rattle.common.specs.declared.limits.TheConstants.{LEAST_BLOCKS, MOST_BLOCKS, ROWS, SLOTS}
use Rattle.enc_model.specs.Indexes.{IndexSet}
use Rattle.enc_index.specs.Area.{area_byte}
use Rattle.enc_index.specs.Sets.{IsIndexSet}
use Rattle.spool_blocks.specs.Chains.{OwnsOneEach}
use Rattle.spool_journal.specs.Image.{journal_pages, text_page}
use Rattle.spool_texts.specs.Texts.{text_shown}
use Rattle.upload_rules.specs.Room.{blocks_of}
use Rattle.spool_pages.specs.Fits.{FitsSlotOf, FitsRow}
use Rattle.spool_pages.specs.View.{SlotRecord, View, Encodes, AreAt, state_page, slot_bytes, row_bytes}
use Rattle.spool_pages.specs.View.{index_place, state_place, slot_place, row_place}
use Rattle.spool_pages.specs.declared.version.Version.{Version}
use Rattle.spool_catalog.proofs.Valid.{area_passes, slot_passes, row_passes, slots_fit, rows_fit}
use Rattle.spool_catalog.specs.Records.{FitsCatalog}
use Rattle.spool_catalog.specs.Holding.{AreDistinct}
use Rattle.spool_catalog.specs.Shows.{IsValid, IsValidRecord, IsOwned, Shows}
use Rattle.spool_catalog.proofs.Every.{each_shows}
use Rattle.upload_rules.specs.Store.{Store}
use Rattle.spool_catalog.specs.Checks.{RecordsPass, RowPasses, RowsPass}
use Rattle.spool_catalog.specs.Holding.{Holding}
use Rattle.spool_catalog.specs.Catalog.{HasViewAlone}
use Rattle.spool_load.specs.Loaded.{LoadedFrom}
use Rattle.spool_load.specs.Reads.{FieldsAreAt, SlotsAreAt, RowsAreAt}

-- A SOUND VIEW PASSES

pub valid_passes : (v : View) → IsValid v → RecordsPass v.next v.slots
valid_passes v valid = record {
  least = valid.next_least;
  most = valid.next_most;
  records = λ s r e.
      let is = valid.records s r e in
      record { below = is.below; accepted = is.accepted; declared = is.declared; state = is.state };
}

pub valid_rows : (v : View) → IsValid v → RowsPass v.slots v.rows
valid_rows v valid b slot ordinal owns =
    let owned : IsOwned v slot ordinal = valid.owners b slot ordinal owns in
    record {
      used = owned.used;
      there = owned.there;
      below = (valid.lists slot owned.used owned.there).only b ordinal owns;
    }

-- A SOUND VIEW IS READ

-- of bytes that encode it: what holds of each next number, index set, slots and rows that may be there holds of its own
module _ (bytes : ℕ → ℕ) (n : ℕ) (v : View) (valid : IsValid v) (blocks : v.blocks ≡ n) (encodes : Encodes bytes v)
  where
    pub area_encoded : {Q : IndexSet → Type 0} → ((x : IndexSet) → IsIndexSet x
        → ((i : ℕ) → i < 90112 → bytes (index_place n + i) ≡ area_byte x i) → Q x) → Q v.indexes
    area_encoded decoded = decoded v.indexes valid.indexes (area_passes bytes v n blocks encodes)

    pub slots_updated : (version : Version) → version ≡ v.version → {Q : List (Option SlotRecord) → Type 0}
        → ((decoded : List (Option SlotRecord)) → length decoded ≡ SLOTS
        → ((s : ℕ) → FitsCatalog (get_or decoded s None))
        → ((s : ℕ) → s < SLOTS → AreAt bytes (slot_place n s) 2048 (slot_bytes version (get_or decoded s None)))
        → Q decoded)
        → Q v.slots
    slots_updated version is decoded =
        let S : Version → Type 0 =
        λ w. (s : ℕ) → s < SLOTS → AreAt bytes (slot_place n s) 2048 (slot_bytes w (get_or v.slots s None)) in
        decoded v.slots valid.slot_count (slots_fit v valid) (subst S (sym is) (slot_passes bytes v n blocks encodes))

    pub rows_encoded : {Q : List (Option (ℕ × ℕ)) → Type 0} → ((all : List (Option (ℕ × ℕ))) → length all ≡ n
        → ((b : ℕ) → FitsRow (get_or all b None))
        → ((b : ℕ) → b < ROWS * (journal_pages n - 257) → AreAt bytes (row_place n b) 8 (row_bytes (get_or all b None)))
        → Q all) → Q v.rows
    rows_encoded decoded = decoded v.rows (valid.row_count ∙ blocks) (rows_fit v valid)
        (row_passes bytes v n blocks encodes)

-- WHAT PASSES IS A SOUND VIEW

module _ (bytes : ℕ → ℕ) (n : ℕ) (version : Version) (next : ℕ) (x : IndexSet) (slots : List (Option SlotRecord))
    (rows : List (Option (ℕ × ℕ))) where
  abbrev shown_at : ℕ → Option SlotRecord → List ℕ
  shown_at s None = []
  shown_at s (Some r) = text_shown bytes (text_page n) rows s r.text_len

  abbrev pub view_read : View
  view_read = record {
    blocks = n;
    version = version;
    next = next;
    indexes = x;
    slots = slots;
    rows = rows;
    texts = λ s. shown_at s (get_or slots s None);
  }

  read_encodes : FieldsAreAt bytes n x → AreAt bytes (state_place n) PAGE (state_page version next)
      → SlotsAreAt bytes n version slots → length slots ≡ SLOTS
      → RowsAreAt bytes n (ROWS * (journal_pages n - 257)) rows
      → Encodes bytes view_read
  read_encodes fields state at_all long there = record {
    first = fields.first;
    area = fields.area.each;
    state = state;
    slots = λ s lt. at_all.each s (omega (arith, lt, long));
    rows = there.each;
    texts = λ s r e. ap (shown_at s) e;
  }

  module _ (x_valid : IsIndexSet x) (fits : (s : ℕ) → FitsSlotOf (get_or slots s None)) (least : LEAST_BLOCKS ≤ n)
      (most : n ≤ MOST_BLOCKS) (long : length slots ≡ SLOTS) (wide : length rows ≡ n) (are : RecordsPass next slots)
      (owned : RowsPass slots rows) (fit : (b : ℕ) → FitsRow (get_or rows b None)) (distinct : AreDistinct slots)
      (lists : (s : ℕ) (r : SlotRecord) → get_or slots s None ≡ Some r → OwnsOneEach rows s (blocks_of r.text_len))
    where
      record_valid : (s : ℕ) (r : SlotRecord) → get_or slots s None ≡ Some r → IsValidRecord next r
      record_valid s r e =
          let fit = subst FitsSlotOf e (fits s) in
          let is = are.records s r e in
          record {
            some = fit.0.some;
            below = is.below;
            accepted = is.accepted;
            declared = is.declared;
            text_fits = fit.0.text_len;
            state_size = fit.0.state;
            state = is.state;
            metadata_size = fit.0.metadata;
            printable = fit.1;
          }

      read_valid : IsValid view_read
      read_valid = record {
        least = least;
        most = most;
        next_least = are.least;
        next_most = are.most;
        indexes = x_valid;
        slot_count = long;
        row_count = wide;
        records = record_valid;
        distinct = distinct;
        owners = λ b slot ordinal owns.
            let is : RowPasses slots slot ordinal = owned b slot ordinal owns in
            let fits : FitsRow (Some (slot, ordinal)) = subst FitsRow owns (fit b) in
            record { used = is.used; there = is.there; fits = fits.1 };
        lists = lists;
      }

      -- the catalog has it, and it shows uploads
      module _ (reserved : List Bool) (h : Holding) (none : reserved ≡ replicate n false)
          (catalog : (v : View) → IsValid v → v.blocks ≡ n → version ≡ v.version → next ≡ v.next → x ≡ v.indexes
          → slots ≡ v.slots → rows ≡ v.rows → reserved ≡ replicate v.blocks false → HasViewAlone h v) where
        read_has_view : HasViewAlone h view_read
        read_has_view = catalog view_read read_valid refl refl refl refl refl refl none

        pub read_shows : (v : View) × (m : Store) × HasViewAlone h v × Shows v m
        read_shows =
            let shows = each_shows h view_read read_has_view.0 read_valid bytes (text_page n)
            (λ s r e. ap (shown_at s) e) in
            (view_read, shows.0, read_has_view, shows.1)

        pub read_loaded : FieldsAreAt bytes n x → AreAt bytes (state_place n) PAGE (state_page version next)
            → SlotsAreAt bytes n version slots → RowsAreAt bytes n (ROWS * (journal_pages n - 257)) rows
            → LoadedFrom bytes n h
        read_loaded fields state at_all there = record {
          view = view_read;
          valid = read_valid;
          blocks = refl;
          encodes = read_encodes fields state at_all long there;
          has_view = read_has_view;
        }
