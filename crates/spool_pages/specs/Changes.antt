-- The effect of changed pages on a view.
use Rattle.std.specs.Prelude.{◌≡◌, ℕ, ◌+◌, ◌-◌, ◌*◌, ◌/◌, ◌%◌, ◌<◌, ◌==◌, if◌then◌else◌, List, [], ◌∷◌, Option, Some}
use Rattle.std.specs.Prelude.{None, length, get_or, slice_set}
use Rattle.common.specs.declared.limits.TheConstants.{ROWS, SLOTS}
use Rattle.spool_journal.specs.declared.TheConstants.{PAGE}
use Rattle.spool_blocks.specs.Blocks.{Row}
use Rattle.spool_journal.specs.Image.{byte_of, journal_pages}
use Rattle.spool_pages.specs.View.{SlotRecord, View, AreAt, slot_at, state_page, slot_bytes, row_bytes}
use Rattle.spool_pages.specs.declared.version.Version.{Version}
use Rattle.spool_pages.specs.declared.version.Version.TheVariants.{Two}

-- The bytes of the page with this number, if it is among them.
unfoldable pub page_in : ℕ → List (ℕ × List ℕ) → Option (List ℕ)
page_in page [] = None
page_in page (entry ∷ pages) = if entry.0 == page then Some entry.1 else page_in page pages

-- A changed page encodes the new value. A value whose page isn't changed stays.
abbrev pub UpdatedBy : {A : Type 0} → Option (List ℕ) → (List ℕ → A → Type 0) → A → A → Type 0
UpdatedBy None encodes old new = new ≡ old
UpdatedBy (Some bytes) encodes old new = encodes bytes new

-- The page numbers of a spool of n blocks.

-- The state page.
abbrev pub state_number : ℕ → ℕ
state_number n = 25 + journal_pages n

-- The page of a slot's record.
abbrev pub record_number : ℕ → ℕ → ℕ
record_number n slot = 26 + journal_pages n + slot / 2

-- The page of a block's row.
abbrev pub row_number : ℕ → ℕ → ℕ
row_number n block = 282 + journal_pages n + block / ROWS

-- What the pages encode.

-- The version and the next number.
abbrev pub EncodesState : List ℕ → Version × ℕ → Type 0
EncodesState bytes state = AreAt (byte_of bytes) 0 PAGE (state_page state.0 state.1)

-- A slot, in a version.
abbrev pub EncodesSlot : ℕ → List ℕ → Version × Option SlotRecord → Type 0
EncodesSlot slot bytes own = AreAt (byte_of bytes) (2048 * (slot % 2)) 2048 (slot_bytes own.0 own.1)

-- A row.
abbrev pub EncodesRow : ℕ → List ℕ → Row → Type 0
EncodesRow block bytes row = AreAt (byte_of bytes) (8 * (block % ROWS)) 8 (row_bytes row)

-- A change leaves the size and the index files. The version only changes if all pages that depend on it do.

-- The pages are changed to those of view v', except that changed rows aren't given yet.
pub record ChangesButRows (pages : List (ℕ × List ℕ)) (v v' : View) : Type 0 where
  pub blocks : v'.blocks ≡ v.blocks
  pub indexes : v'.indexes ≡ v.indexes
  pub state : UpdatedBy (page_in (state_number v.blocks) pages) EncodesState (v.version, v.next) (v'.version, v'.next)
  pub slots : (s : ℕ) → s < SLOTS → UpdatedBy (page_in (record_number v.blocks s) pages) (EncodesSlot s)
      (v.version, slot_at v s) (v'.version, slot_at v' s)
  pub rows : (b : ℕ) → b < ROWS * (journal_pages v.blocks - 257) → page_in (row_number v.blocks b) pages ≡ None
      → get_or v'.rows b None ≡ get_or v.rows b None

-- The pages are changed to those of view v'.
pub record Changes (pages : List (ℕ × List ℕ)) (v v' : View) : Type 0 where
  pub others : ChangesButRows pages v v'
  pub rows : (b : ℕ) → b < ROWS * (journal_pages v.blocks - 257) → UpdatedBy (page_in (row_number v.blocks b) pages)
      (EncodesRow b) (get_or v.rows b None) (get_or v'.rows b None)

-- The new view.

-- The view with another record in the slot, or with the slot free.
abbrev pub with_slot : View → ℕ → Option SlotRecord → View
with_slot v slot own = record v { slots = slice_set v.slots slot own }

-- The view with another record in the slot.
abbrev pub with_record : View → ℕ → SlotRecord → View
with_record v slot r = with_slot v slot (Some r)

-- The view with another next number.
abbrev pub with_next : View → ℕ → View
with_next v next = record v { next = next }

-- The view in version 2.
abbrev pub upgraded : View → View
upgraded v = record v { version = Two }

-- The other slot of the same page.
abbrev pub neighbour : ℕ → ℕ
neighbour slot = if slot % 2 == 0 then slot + 1 else slot - 1

-- Only the rows of these blocks differ.
abbrev pub SameRowsBut : List ℕ → List Row → List Row → Type 0
SameRowsBut blocks old new =
    (b : ℕ) → ((i : ℕ) → i < length blocks → get_or blocks i 0 ≡ b → ⊥) → get_or new b None ≡ get_or old b None
