-- Records of uploads, and the fields of new ones.
use Rattle.std.specs.Prelude.{◌≡◌, ◌≤◌, ℕ, true, List, [], ◌∷◌, All, length, nat_lt, if◌then◌else◌, Option, Some, None}
use Rattle.common.specs.declared.limits.TheConstants.{MOST_METADATA}
use Rattle.enc_model.specs.Indexes.{IndexSet, offers}
use Rattle.enc_model.specs.declared.Encoding.TheVariants.{Utf16Be, Utf16Le}
use Rattle.upload_rules.specs.declared.records.Record.{Record}
use Rattle.upload_rules.specs.Store.{New, Upload, text_of, text_with, is_complete, accepted_count}
use Rattle.upload_rules.specs.States.{IsKeptState, state_of, transcoder_with}

-- The record represents the upload.
pub record Represents (x : IndexSet) (number : ℕ) (r : Record) (u : Upload) : Type 0 where
  pub number_is : r.number ≡ number
  pub declared : r.declared ≡ u.declared
  pub accepted : r.accepted ≡ accepted_count u
  pub text_len : r.text_len ≡ length (text_of x u)
  pub from : r.from ≡ u.from
  pub to : r.to ≡ u.to
  pub mode : r.mode ≡ u.mode
  pub state : r.state ≡ state_of x u
  pub metadata : r.metadata.bytes.items ≡ u.metadata

-- The metadata fits a record of a spool.
abbrev pub IsShort : Record → Type 0
IsShort r = length r.metadata.bytes.items ≤ MOST_METADATA

-- The record represents the upload, its text has no unmappable character, and its state bytes can be unpacked: past the
-- end only if the upload is complete.
pub record RepresentsValid (x : IndexSet) (number : ℕ) (r : Record) (u : Upload) : Type 0 where
  pub represents : Represents x number r u
  pub encodable : (text_with x u [] (is_complete u)).fault ≡ None
  pub valid : IsKeptState (transcoder_with x u [] (is_complete u)) (is_complete u)

-- The record represents the entry, or neither is there.
abbrev pub RepresentsOf : IndexSet → Option (ℕ × Upload) → Option Record → Type 0
RepresentsOf x None None = Unit {0}
RepresentsOf x (Some entry) (Some r) = Represents x entry.0 r entry.1
RepresentsOf x _ _ = ⊥

-- The entry of an upload with its number.
abbrev pub with_number : ℕ → Option Upload → Option (ℕ × Upload)
with_number n None = None
with_number n (Some u) = Some (n, u)

-- The upload of the least number above n.
abbrev pub above : ℕ → List (ℕ × Upload) → Option (ℕ × Upload)
above n [] = None
above n (entry ∷ entries) = if nat_lt n entry.0 then Some entry else above n entries

-- The fields of a new upload are valid, whatever the index set.
pub record IsValidNew (new : New) : Type 0 where
  pub no_utf16 : (new.to ≡ Utf16Be → ⊥) × (new.to ≡ Utf16Le → ⊥)
  pub short : length new.metadata ≤ MOST_METADATA
  pub printable : All (λ b. (0x20 ≤ b) × (b ≤ 0x7E)) new.metadata

-- The index set offers both encodings.
pub record IsOffered (x : IndexSet) (new : New) : Type 0 where
  pub from : offers x new.from ≡ true
  pub to : offers x new.to ≡ true
