-- The catalog of a spool, and how its parts fit one another, whatever the disk's reads gave.
use Rattle.std.specs.Prelude.{◌≡◌, ◌⊎◌, ℕ, ◌<◌, ◌≤◌, List, [], Option, None, Some, length, get_or}
use Rattle.common.specs.declared.limits.TheConstants.{SLOTS}
use Rattle.enc_model.specs.Indexes.{IndexSet}
use Rattle.spool_blocks.specs.Blocks.{Row, Held}
use Rattle.spool_blocks.specs.Chains.{OwnsOneEach}
use Rattle.upload_rules.specs.Room.{blocks_of}
use Rattle.spool_pages.specs.Fits.{FitsRow}
use Rattle.spool_pages.specs.View.{SlotRecord}
use Rattle.spool_pages.specs.declared.version.Version.{Version}
use Rattle.spool_catalog.specs.declared.catalog.Catalog.TheInside.{Inside}
use Rattle.spool_catalog.specs.declared.order.NumberedSlot.{NumberedSlot}
use Rattle.spool_blocks.specs.Chains.{Owns}

-- THE ORDER: numbers of uploads with their slots

abbrev pub numbered : ℕ → ℕ → NumberedSlot
numbered number slot = record { number = number; slot = slot }

abbrev pub number_at : List NumberedSlot → ℕ → ℕ
number_at order k = (get_or order k (numbered 0 0)).number

-- each number is above those before it
abbrev pub Rises : List NumberedSlot → Type 0
Rises order = (i k : ℕ) → i < k → k < length order → number_at order i < number_at order k

-- the number is in the order, with this slot
pub record IsListedAt (order : List NumberedSlot) (number slot : ℕ) : Type 0 where
  pub place : ℕ
  pub below : place < length order
  pub here : get_or order place (numbered 0 0) ≡ numbered number slot

-- the slot is in use, by the upload of this number
pub record IsUsedBy (slots : List (Option SlotRecord)) (slot number : ℕ) : Type 0 where
  pub used : SlotRecord
  pub there : get_or slots slot None ≡ Some used
  pub is : used.number ≡ number

-- the listed blocks are owned by the slot that the upload of this number is in
pub record IsOwnedBy (slots : List (Option SlotRecord)) (rows : List Row) (number : ℕ) (list : List ℕ) : Type 0 where
  pub slot : ℕ
  pub used : IsUsedBy slots slot number
  pub owned : (i : ℕ) → i < length list → (k : ℕ) × Owns rows (get_or list i 0) slot k

-- these are the slots in use below this one, by ascending numbers
pub record Orders (slots : List (Option SlotRecord)) (order : List NumberedSlot) (end : ℕ) : Type 0 where
  pub rises : Rises order
  pub below : (n s : ℕ) → IsListedAt order n s → s < end
  pub names : (n s : ℕ) → IsListedAt order n s → IsUsedBy slots s n
  pub all : (s : ℕ) (r : SlotRecord) → s < end → get_or slots s None ≡ Some r → IsListedAt order r.number s

-- each number is below the next one
abbrev pub AreBelow : ℕ → List (Option SlotRecord) → Type 0
AreBelow next slots = (s : ℕ) (r : SlotRecord) → get_or slots s None ≡ Some r → r.number < next

-- no two slots have the same number
abbrev pub AreDistinct : List (Option SlotRecord) → Type 0
AreDistinct slots =
    (s t : ℕ) (r q : SlotRecord) → get_or slots s None ≡ Some r → get_or slots t None ≡ Some q → r.number ≡ q.number
    → s ≡ t

-- the numbers up to this one are before the place, the greater ones from it on
pub record IsPlaceFor (order : List NumberedSlot) (number place : ℕ) : Type 0 where
  pub within : place ≤ length order
  pub before : (k : ℕ) → k < place → number_at order k ≤ number
  pub after : (k : ℕ) → place ≤ k → k < length order → number < number_at order k

-- the number came to the others, with this slot
pub record IsAdded (old : List NumberedSlot) (number slot : ℕ) (new : List NumberedSlot) : Type 0 where
  pub rises : Rises new
  pub there : IsListedAt new number slot
  pub preserved : (n s : ℕ) → IsListedAt old n s → IsListedAt new n s
  pub only : (n s : ℕ) → IsListedAt new n s → IsListedAt old n s ⊎ ((n ≡ number) × (s ≡ slot))

-- THE LISTS: each slot's blocks by ordinal

-- these blocks are the slot's, as many as a text of this length needs
pub record HasBlocks (rows : List Row) (slot len : ℕ) (list : List ℕ) : Type 0 where
  pub size : length list ≡ blocks_of len
  pub owned : (i : ℕ) → i < length list → get_or rows (get_or list i 0) None ≡ Some (slot, i)

-- and none are a free slot's
abbrev pub IsListOf : List Row → ℕ → Option SlotRecord → List ℕ → Type 0
IsListOf rows slot None list = list ≡ []
IsListOf rows slot (Some r) list = HasBlocks rows slot r.text_len list

-- the lists of the slots below this one
abbrev pub AreListsTo : List Row → List (Option SlotRecord) → List (List ℕ) → ℕ → Type 0
AreListsTo rows slots lists end = (s : ℕ) → s < end → IsListOf rows s (get_or slots s None) (get_or lists s [])

-- the slot owns as many blocks as its text needs, one at each ordinal
abbrev pub OwnsText : List Row → ℕ → Option SlotRecord → Type 0
OwnsText rows slot None = Unit {0}
OwnsText rows slot (Some r) = OwnsOneEach rows slot (blocks_of r.text_len)

-- THE WHOLE CATALOG

pub record Holding : Type 0 where
  pub layout : ℕ
  pub version : Version
  pub next : ℕ
  pub indexes : IndexSet
  pub slots : List (Option SlotRecord)
  pub order : List NumberedSlot
  pub lists : List (List ℕ)
  pub blocks : Held

-- the model of a `Catalog`, of its fields
abbrev pub held_of : Inside → Holding
held_of k = record {
  layout = k.layout;
  version = k.version;
  next = k.next;
  indexes = k.indexes;
  slots = k.slots.items;
  order = k.order.items;
  lists = k.lists.items;
  blocks = k.blocks;
}

pub record FitsTogether (h : Holding) : Type 0 where
  pub slot_count : length h.slots ≡ SLOTS
  pub list_count : length h.lists ≡ SLOTS
  pub row_count : length h.blocks.rows ≡ h.layout
  pub rows_fit : (b : ℕ) → FitsRow (get_or h.blocks.rows b None)
  pub below : AreBelow h.next h.slots
  pub ordered : Orders h.slots h.order SLOTS
  pub listed : AreListsTo h.blocks.rows h.slots h.lists SLOTS
