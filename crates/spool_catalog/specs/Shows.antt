-- A view shows uploads: all that is stored of them is there, and all checks hold.
use Rattle.std.specs.Prelude.{◌≡◌, ℕ, ◌^◌, ◌<◌, ◌≤◌, true, false, All, List, [], Option, Some, None, length, map}
use Rattle.common.specs.declared.limits.TheConstants.{LEAST_BLOCKS, MOST_BLOCKS, MOST_LENGTH, MOST_METADATA, SLOTS}
use Rattle.enc_model.specs.Indexes.{IndexSet}
use Rattle.enc_model.specs.Transcode.{Transcoder, Phase, Before, During, Over}
use Rattle.enc_index.specs.Sets.{IsIndexSet}
use Rattle.enc_stream.specs.StateBytes.{IsValidState, state_bytes}
use Rattle.spool_blocks.specs.Chains.{Owns, OwnsOneEach}
use Rattle.upload_rules.specs.Lengths.{is_length, longest}
use Rattle.upload_rules.specs.Store.{Origin, Upload, Store, find, is_complete, text_with, text_of, accepted_count}
use Rattle.upload_rules.specs.Room.{blocks_of}
use Rattle.upload_rules.specs.States.{state_of, transcoder_with}
use Rattle.upload_rules.specs.Slots.{IsRising}
use Rattle.spool_pages.specs.View.{SlotRecord, View, slot_at, IsViewOf}

-- THE CHECKS

-- After the end exactly where the length is known and all its bytes were accepted. Before a byte order mark is decided
-- all accepted bytes are held, and from the first byte on it may be decided.
abbrev pub FitsPhase : Phase → ℕ → Option ℕ → Type 0
FitsPhase (Before held) accepted declared = (accepted ≡ length held) × (is_length declared accepted ≡ false)
FitsPhase (During s) accepted declared = (1 ≤ accepted) × (is_length declared accepted ≡ false)
FitsPhase Over accepted declared = is_length declared accepted ≡ true

-- the state bytes are those of a transcoder whose state may be that after so many bytes
pub record HasState (r : SlotRecord) : Type 0 where
  pub transcoder : Transcoder
  pub valid : IsValidState transcoder
  pub is : r.state ≡ state_bytes transcoder
  pub phase : FitsPhase transcoder.phase r.accepted r.declared

pub record IsValidRecord (next : ℕ) (r : SlotRecord) : Type 0 where
  pub some : 1 ≤ r.number
  pub below : r.number < next
  pub accepted : r.accepted ≤ longest r.declared
  pub declared : longest r.declared ≤ MOST_LENGTH
  pub text_fits : r.text_len < 2 ^ 64
  pub state_size : length r.state ≡ 32
  pub state : HasState r
  pub metadata_size : length r.metadata ≤ MOST_METADATA
  pub printable : All (λ b. (0x20 ≤ b) × (b ≤ 0x7E)) r.metadata

-- the row's slot is in use, and its ordinal fits four bytes
pub record IsOwned (v : View) (slot ordinal : ℕ) : Type 0 where
  pub used : SlotRecord
  pub there : slot_at v slot ≡ Some used
  pub fits : ordinal < 2 ^ 32

pub record IsValid (v : View) : Type 0 where
  pub least : LEAST_BLOCKS ≤ v.blocks
  pub most : v.blocks ≤ MOST_BLOCKS
  pub next_least : 1 ≤ v.next
  pub next_most : v.next ≤ 10 ^ 18
  pub indexes : IsIndexSet v.indexes
  pub slot_count : length v.slots ≡ SLOTS
  pub row_count : length v.rows ≡ v.blocks
  pub records : (s : ℕ) (r : SlotRecord) → slot_at v s ≡ Some r → IsValidRecord v.next r
  pub distinct : (s t : ℕ) (r q : SlotRecord) → slot_at v s ≡ Some r → slot_at v t ≡ Some q → r.number ≡ q.number
      → s ≡ t
  pub owners : (b slot ordinal : ℕ) → Owns v.rows b slot ordinal → IsOwned v slot ordinal
  pub lists : (s : ℕ) (r : SlotRecord) → slot_at v s ≡ Some r → OwnsOneEach v.rows s (blocks_of r.text_len)

-- THE UPLOADS

-- After an origin the phase fits the counts. That of an upload with all its bytes always does.
abbrev pub FitsAfter : IndexSet → Upload → Option Origin → Type 0
FitsAfter x u None = Unit {0}
FitsAfter x u (Some o) = FitsPhase (transcoder_with x u [] (is_complete u)).phase (accepted_count u) u.declared

-- a record and a text represent an upload
pub record IsRecordOf (x : IndexSet) (r : SlotRecord) (shown : List ℕ) (u : Upload) : Type 0 where
  pub declared : r.declared ≡ u.declared
  pub accepted : r.accepted ≡ accepted_count u
  pub metadata : r.metadata ≡ u.metadata
  pub text_len : r.text_len ≡ length (text_of x u)
  pub text : shown ≡ text_of x u
  pub encodable : (text_with x u [] (is_complete u)).fault ≡ None
  pub valid : IsValidState (transcoder_with x u [] (is_complete u))
  pub phase : FitsAfter x u u.origin
  pub state : r.state ≡ state_of x u

-- the upload that a record represents
pub record IsRecorded (m : Store) (r : SlotRecord) (shown : List ℕ) : Type 0 where
  pub upload : Upload
  pub there : find r.number m.uploads ≡ Some upload
  pub represents : IsRecordOf m.indexes r shown upload

-- the slot of a number
pub record HasSlot (v : View) (n : ℕ) : Type 0 where
  pub slot : ℕ
  pub used : SlotRecord
  pub there : slot_at v slot ≡ Some used
  pub number : used.number ≡ n

pub record Shows (v : View) (m : Store) : Type 0 where
  pub valid : IsValid v
  pub next : v.next ≡ m.next
  pub indexes : v.indexes ≡ m.indexes
  pub rising : IsRising (map (λ e. e.0) m.uploads)
  pub recorded : (s : ℕ) (r : SlotRecord) → slot_at v s ≡ Some r → IsRecorded m r (v.texts s)
  pub all : (n : ℕ) (u : Upload) → find n m.uploads ≡ Some u → HasSlot v n

-- the image, read plainly, shows the uploads, and so many text blocks
pub record ImageShows (n : ℕ) (image : ℕ → ℕ) (m : Store) : Type 0 where
  pub view : View
  pub blocks : view.blocks ≡ n
  pub is : IsViewOf image view
  pub shows : Shows view m
