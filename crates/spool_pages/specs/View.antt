-- The bytes of a spool, and the view that they encode. Numbers are big-endian. An image gives the byte at each place.
use Rattle.std.specs.Prelude.{◌≡◌, ℕ, ◌+◌, ◌-◌, ◌*◌, ◌<◌, List, [], ◌∷◌, ◌++◌, Option, Some, None, length, get_or}
use Rattle.std.specs.Prelude.{replicate}
use Rattle.std.specs.Int.{to_be_bytes, w16, w32, w64}
use Rattle.spool_journal.specs.declared.TheConstants.{PAGE}
use Rattle.common.specs.declared.limits.TheConstants.{MOST_METADATA, ROWS, SLOTS}
use Rattle.enc_model.specs.Indexes.{IndexSet}
use Rattle.enc_index.specs.Area.{area_byte}
use Rattle.spool_journal.specs.Image.{byte_of, journal_pages, InForm, count, journal_number, overlaid, text_page}
use Rattle.spool_texts.specs.Texts.{text_shown}
use Rattle.spool_pages.specs.declared.version.Version.{Version}
use Rattle.spool_pages.specs.declared.version.Version.TheVariants.{One, Two}

-- The contents of a spool.

-- The record of an upload in its slot.
pub record SlotRecord : Type 0 where
  pub number : ℕ
  pub declared : Option ℕ
  pub accepted : ℕ
  pub text_len : ℕ
  pub state : List ℕ
  pub metadata : List ℕ

-- The number of text blocks, the version, the next number, the index files, the 512 slots, the slot and ordinal of each
-- block, and the text of each slot.
pub record View : Type 0 where
  pub blocks : ℕ
  pub version : Version
  pub next : ℕ
  pub indexes : IndexSet
  pub slots : List (Option SlotRecord)
  pub rows : List (Option (ℕ × ℕ))
  pub texts : ℕ → List ℕ

-- The record in slot s.
abbrev pub slot_at : View → ℕ → Option SlotRecord
slot_at v s = get_or v.slots s None

-- The contents as bytes. Zeros follow them.

-- TUSSPOOL.
abbrev pub magic : List ℕ
magic = 0x54 ∷ 0x55 ∷ 0x53 ∷ 0x53 ∷ 0x50 ∷ 0x4F ∷ 0x4F ∷ 0x4C ∷ []

-- Page 0.
unfoldable pub first_page : ℕ → List ℕ
first_page blocks = magic ++ to_be_bytes w32 blocks

abbrev pub version_number : Version → ℕ
version_number One = 1
version_number Two = 2

-- The state page.
unfoldable pub state_page : Version → ℕ → List ℕ
state_page version next = to_be_bytes w32 (version_number version) ++ to_be_bytes w64 next

-- The number that encodes a length: an unknown one is eight bytes FF in version 1, and zeros in version 2.
abbrev pub length_number : Version → Option ℕ → ℕ
length_number version (Some n) = n
length_number One None = 0xFFFFFFFFFFFFFFFF
length_number Two None = 0

-- The tag after the space for metadata: 1 for an unknown length in version 2.
abbrev pub length_tag : Version → Option ℕ → ℕ
length_tag version (Some n) = 0
length_tag One None = 0
length_tag Two None = 1

-- The bytes of a record.
unfoldable pub record_bytes : Version → SlotRecord → List ℕ
record_bytes version r =
    to_be_bytes w64 r.number ++ to_be_bytes w64 (length_number version r.declared) ++ to_be_bytes w64 r.accepted
    ++ to_be_bytes w64 r.text_len ++ r.state ++ to_be_bytes w16 (length r.metadata) ++ r.metadata
    ++ replicate (MOST_METADATA - length r.metadata) 0 ++ length_tag version r.declared ∷ []

-- A free slot is all zeros.
abbrev pub slot_bytes : Version → Option SlotRecord → List ℕ
slot_bytes version None = []
slot_bytes version (Some r) = record_bytes version r

-- A row is slot + 1 and the ordinal, or zeros if no slot owns the block.
unfoldable pub row_bytes : Option (ℕ × ℕ) → List ℕ
row_bytes None = []
row_bytes (Some o) = to_be_bytes w32 (o.0 + 1) ++ to_be_bytes w32 o.1

-- The places in a spool of n blocks, in bytes.

-- The index area.
abbrev pub index_place : ℕ → ℕ
index_place n = PAGE * (3 + journal_pages n)

-- The state page.
abbrev pub state_place : ℕ → ℕ
state_place n = PAGE * (25 + journal_pages n)

-- The record of slot s.
abbrev pub slot_place : ℕ → ℕ → ℕ
slot_place n s = state_place n + PAGE + 2048 * s

-- The row of block b.
abbrev pub row_place : ℕ → ℕ → ℕ
row_place n b = state_place n + PAGE * 257 + 8 * b

-- From this place on the image has these bytes, and zeros up to the size.
pub record AreAt (image : ℕ → ℕ) (place size : ℕ) (bytes : List ℕ) : Type 0 where
  pub each : (i : ℕ) → i < size → image (place + i) ≡ byte_of bytes i

-- The view of an image.

-- The bytes encode this view.
pub record Encodes (image : ℕ → ℕ) (v : View) : Type 0 where
  pub first : AreAt image 0 PAGE (first_page v.blocks)
  pub area : (i : ℕ) → i < 90112 → image (index_place v.blocks + i) ≡ area_byte v.indexes i
  pub state : AreAt image (state_place v.blocks) PAGE (state_page v.version v.next)
  pub slots : (s : ℕ) → s < SLOTS → AreAt image (slot_place v.blocks s) 2048
      (slot_bytes v.version (slot_at v s))
  pub rows : (b : ℕ) → b < ROWS * (journal_pages v.blocks - 257) → AreAt image (row_place v.blocks b) 8
      (row_bytes (get_or v.rows b None))
  pub texts : (s : ℕ) (r : SlotRecord) → slot_at v s ≡ Some r → v.texts s ≡ text_shown image (text_page v.blocks) v.rows
      s r.text_len

-- The plain reading of the image has this view: if its gate is open, the journal's head is valid and its pages lie over
-- their places.
pub record IsViewOf (image : ℕ → ℕ) (v : View) : Type 0 where
  pub form : image PAGE ≡ 165 → InForm (journal_pages v.blocks) (count image) (journal_number image)
  pub encodes : Encodes (overlaid image) v
