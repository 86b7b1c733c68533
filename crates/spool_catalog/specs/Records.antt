-- The record of an upload in memory.
use Rattle.std.specs.Prelude.{◌≡◌, ◌≤◌, ℕ, All, List, Option, Some, None}
use Rattle.enc_model.specs.Indexes.{IndexSet}
use Rattle.enc_model.specs.Transcode.{Transcoder}
use Rattle.enc_stream.specs.StateBytes.{IsValidState, state_bytes}
use Rattle.upload_rules.specs.declared.records.Record.{Record}
use Rattle.upload_rules.specs.Records.{IsShort, RepresentsValid}
use Rattle.upload_rules.specs.Store.{Upload, Store, upload_of, text_of}
use Rattle.spool_texts.specs.TextOn.{text_on}
use Rattle.spool_pages.specs.Fits.{FitsSlotOf}
use Rattle.spool_pages.specs.View.{SlotRecord}
use Rattle.spool_catalog.specs.Shows.{HasState}
use Rattle.std.specs.Prelude.{get_or}

-- the record as it is in its slot's bytes
abbrev pub slot_record_of : Record → SlotRecord
slot_record_of r = record {
  number = r.number;
  declared = r.declared;
  accepted = r.accepted;
  text_len = r.text_len;
  state = r.state;
  metadata = r.metadata.bytes.items;
}

-- the encodings and the mode are those of its state
pub record IsUnpacked (r : Record) : Type 0 where
  pub transcoder : Transcoder
  pub valid : IsValidState transcoder
  pub is : r.state ≡ state_bytes transcoder
  pub from : r.from ≡ transcoder.from
  pub to : r.to ≡ transcoder.to
  pub mode : r.mode ≡ transcoder.mode

-- and the metadata has room in a slot
pub record FitsMemory (r : Record) : Type 0 where
  pub unpacked : IsUnpacked r
  pub short : IsShort r

-- a free slot, or a record that fits its bytes, with the state of a transcoder
abbrev pub FitsCatalog : Option SlotRecord → Type 0
FitsCatalog None = Unit {0}
FitsCatalog (Some r) = FitsSlotOf (Some r) × HasState r

-- its state is a transcoder's, and its metadata is printable
pub record IsReadable (r : SlotRecord) : Type 0 where
  pub transcoder : Transcoder
  pub valid : IsValidState transcoder
  pub is : r.state ≡ state_bytes transcoder
  pub printable : All (λ b. (0x20 ≤ b) × (b ≤ 0x7E)) r.metadata

-- the record of an upload, none where there is none
abbrev pub RepresentsValidOf : IndexSet → ℕ → Option Upload → Option Record → Type 0
RepresentsValidOf x n None None = Unit {0}
RepresentsValidOf x n (Some u) (Some r) = RepresentsValid x n r u
RepresentsValidOf x n _ _ = ⊥

-- the record is the upload's
pub record IsUploadOf (m : Store) (number : ℕ) (r : Record) : Type 0 where
  pub upload : Upload
  pub there : upload_of m number ≡ Some upload
  pub valid : RepresentsValid m.indexes number r upload

-- the upload's text is on the listed blocks
abbrev pub HasTextOn : Store → ℕ → (ℕ → ℕ) → ℕ → Record → List ℕ → Type 0
HasTextOn m number current first r list =
    (u : Upload) → upload_of m number ≡ Some u → text_on current first list r.text_len ≡ text_of m.indexes u

-- the record is that of a slot, and of each slot with its number
pub record IsInSlot (slots : List (Option SlotRecord)) (r : Record) : Type 0 where
  pub slot : ℕ
  pub there : get_or slots slot None ≡ Some (slot_record_of r)
  pub only : (s : ℕ) (q : SlotRecord) → get_or slots s None ≡ Some q → q.number ≡ r.number → q ≡ slot_record_of r
