-- The bytes of a record.
use Rattle.std.proofs.Common.{◌≡◌, ℕ, ◌+◌, ◌-◌, ◌≤◌, ◌++◌, List, [], Option, Some, None, length}
use Rattle.std.proofs.Common.{◌∷◌, ◌<◌, ◌^◌, replicate, refl, sym, subst, arith}
use Rattle.std.specs.Int.{to_be_bytes, w16, w64}
use Rattle.std.specs.List.{slice_range}
use Rattle.std.proofs.lemmas.Bool.{cases_lt}
use Rattle.std.proofs.lemmas.Grind.{common_steps}
use Rattle.std.proofs.lemmas.List.{ext_get_or}
use Rattle.common.specs.declared.limits.TheConstants.{MOST_METADATA}
use Rattle.spool_journal.specs.Image.{byte_of}
use Rattle.spool_pages.specs.Bytes.{IsPadded}
use Rattle.spool_pages.proofs.Bytes.{padded_zeros}
use Rattle.spool_pages.specs.View.{SlotRecord, AreAt, length_number, length_tag, record_bytes, slot_bytes}
use Rattle.spool_pages.specs.declared.version.Version.{Version}
use Rattle.spool_pages.specs.declared.version.Version.TheVariants.{One, Two}
use Rattle.spool_pages.specs.Fits.{FitsLength, FitsSlotOf}

pub pad : {page : List ℕ} (xs : List ℕ) {ys : List ℕ} (zs : List ℕ) → ys ≡ zs → IsPadded page (xs ++ ys)
    → IsPadded page (xs ++ zs)
pad {page = page} xs zs e padded = subst (λ (bytes : List ℕ). IsPadded page (xs ++ bytes)) e padded

-- the four numbers, with the state, with the metadata's length, with the metadata, and with the rest of its room
abbrev pub two_of : Version → SlotRecord → List ℕ
two_of version r = to_be_bytes w64 r.number ++ to_be_bytes w64 (length_number version r.declared)

abbrev pub three_of : Version → SlotRecord → List ℕ
three_of version r = two_of version r ++ to_be_bytes w64 r.accepted

abbrev pub four_of : Version → SlotRecord → List ℕ
four_of version r = three_of version r ++ to_be_bytes w64 r.text_len

abbrev pub state_end : Version → SlotRecord → List ℕ
state_end version r = four_of version r ++ r.state

abbrev pub head_of : Version → SlotRecord → List ℕ
head_of version r = state_end version r ++ to_be_bytes w16 (length r.metadata)

abbrev pub metadata_end : Version → SlotRecord → List ℕ
metadata_end version r = head_of version r ++ r.metadata

abbrev pub room_end : Version → SlotRecord → List ℕ
room_end version r = metadata_end version r ++ replicate (MOST_METADATA - length r.metadata) 0

module _ (version : Version) (r : SlotRecord) where
  pub record_is : room_end version r ++ length_tag version r.declared ∷ [] ≡ record_bytes version r
  unfolding record_bytes
  record_is = refl

  module _ (state : length r.state ≡ 32) where
    pub length-state_end : length (state_end version r) ≡ 64
    length-state_end = grind (arith, common_steps)

    pub length-head : length (head_of version r) ≡ 66
    length-head = grind (arith, common_steps)

    pub length-metadata_end : length (metadata_end version r) ≡ 66 + length r.metadata
    length-metadata_end = grind (arith, common_steps)

    pub length-room_end : length r.metadata ≤ MOST_METADATA → length (room_end version r) ≡ 1602
    length-room_end few = grind (arith, common_steps)

    pub length-record : length r.metadata ≤ MOST_METADATA → length (record_bytes version r) ≡ 1603
    unfolding record_bytes
    length-record few = grind (arith, common_steps)

-- PARTS

pub at_prefix : {f : ℕ → ℕ} {place size : ℕ} (xs ys : List ℕ) (k : ℕ) → length xs ≡ k → k ≤ size
    → AreAt f place size (xs ++ ys) → AreAt f place k xs
at_prefix xs ys k long fits are_at = record { each = λ i lt. grind (arith, common_steps, are_at.each i) }

pub at_beyond : {f : ℕ → ℕ} {place size : ℕ} (xs ys : List ℕ) (k m : ℕ) → length xs ≡ k → k + m ≤ size
    → AreAt f place size (xs ++ ys) → AreAt f (place + k) m ys
at_beyond xs ys k m long fits are_at = record { each = λ i lt. grind (arith, common_steps, are_at.each (k + i)) }

pub at_both : {f : ℕ → ℕ} {place : ℕ} (xs ys : List ℕ) (k m : ℕ) → length xs ≡ k → AreAt f place k xs
    → AreAt f (place + k) m ys → AreAt f place (k + m) (xs ++ ys)
at_both xs ys k m long first second = record {
  each = λ i lt. grind (arith, common_steps, cases_lt, first.each i, second.each (i - k));
}

pub length-range : (bytes : List ℕ) (at end : ℕ) → end ≤ length bytes → length (slice_range bytes at end) ≡ end - at
length-range bytes at end fits = grind (arith, common_steps)

-- the bytes of a range are at its place
pub range_at : (bytes : List ℕ) (at end size : ℕ) → at + size ≡ end
    → AreAt (byte_of bytes) at size (slice_range bytes at end)
range_at bytes at end size is = record { each = λ i lt. grind (arith, common_steps) }

pub padded_at : {page xs : List ℕ} (size : ℕ) → IsPadded page xs → AreAt (byte_of page) 0 size xs
padded_at size padded = record { each = λ i lt. grind (arith, padded.each i) }

-- where nothing is there are zeros
module _ {f : ℕ → ℕ} {place : ℕ} (n : ℕ) where
  pub to_zeros : AreAt f place n [] → AreAt f place n (replicate n 0)
  to_zeros are_at = record { each = λ i lt. grind (arith, common_steps, are_at.each i) }

  pub of_zeros : AreAt f place n (replicate n 0) → AreAt f place n []
  of_zeros are_at = record { each = λ i lt. grind (arith, common_steps, are_at.each i) }

one_at : {f : ℕ → ℕ} {place x : ℕ} → f place ≡ x → AreAt f place 1 (x ∷ [])
one_at e = record { each = λ i lt. grind (arith, common_steps) }

-- a length's number fits its eight bytes
pub number_fits : (version : Version) (declared : Option ℕ) → FitsLength declared
    → length_number version declared < 2 ^ 64
number_fits version (Some n) fits = omega (arith, fits)
number_fits One None fits = omega arith
number_fits Two None fits = omega arith

-- where a record's parts are
pub record PartsAt (f : ℕ → ℕ) (version : Version) (r : SlotRecord) : Type 0 where
  pub number : AreAt f 0 8 (to_be_bytes w64 r.number)
  pub declared : AreAt f 8 8 (to_be_bytes w64 (length_number version r.declared))
  pub accepted : AreAt f 16 8 (to_be_bytes w64 r.accepted)
  pub text_len : AreAt f 24 8 (to_be_bytes w64 r.text_len)
  pub state : AreAt f 32 32 r.state
  pub metadata_len : AreAt f 64 2 (to_be_bytes w16 (length r.metadata))
  pub metadata : AreAt f 66 (length r.metadata) r.metadata
  pub room : AreAt f (66 + length r.metadata) (MOST_METADATA - length r.metadata) []
  pub tag : f 1602 ≡ length_tag version r.declared

module _ (f : ℕ → ℕ) (version : Version) (r : SlotRecord) (size : length r.state ≡ 32)
    (few : length r.metadata ≤ MOST_METADATA) where
  at : 0 + (66 + length r.metadata) ≡ 66 + length r.metadata
  at = omega arith

  pub parts_of : AreAt f 0 2048 (record_bytes version r) → PartsAt f version r
  parts_of whole =
      let all = rw (sym (record_is version r)) at whole in
      let long = length-metadata_end version r size in
      let room = at_prefix (room_end version r) _ 1602 (length-room_end version r size few) (omega arith) all in
      let metadata = at_prefix (metadata_end version r) _ (66 + length r.metadata) long (omega (arith, few)) room in
      let head = at_prefix (head_of version r) _ 66 (length-head version r size) (omega arith) metadata in
      let state = at_prefix (state_end version r) _ 64 (length-state_end version r size) (omega arith) head in
      let four = at_prefix (four_of version r) _ 32 refl (omega arith) state in
      let three = at_prefix (three_of version r) _ 24 refl (omega arith) four in
      let two = at_prefix (two_of version r) _ 16 refl (omega arith) three in
      let tag = at_beyond (room_end version r) _ 1602 1 (length-room_end version r size few) (omega arith) all in
      record {
        number = at_prefix (to_be_bytes w64 r.number) _ 8 refl (omega arith) two;
        declared = at_beyond (to_be_bytes w64 r.number) _ 8 8 refl (omega arith) two;
        accepted = at_beyond (two_of version r) _ 16 8 refl (omega arith) three;
        text_len = at_beyond (three_of version r) _ 24 8 refl (omega arith) four;
        state = at_beyond (four_of version r) _ 32 32 refl (omega arith) state;
        metadata_len = at_beyond (state_end version r) _ 64 2 (length-state_end version r size) (omega arith) head;
        metadata = at_beyond (head_of version r) _ 66 (length r.metadata) (length-head version r size) (omega arith)
            metadata;
        room = rw at at (of_zeros (MOST_METADATA - length r.metadata) (at_beyond (metadata_end version r) _
            (66 + length r.metadata) (MOST_METADATA - length r.metadata) long (omega (arith, few)) room));
        tag = tag.each 0 (omega arith);
      }

  pub of_parts : PartsAt f version r → AreAt f 0 1603 (record_bytes version r)
  of_parts parts =
      let two = at_both (to_be_bytes w64 r.number) _ 8 8 refl parts.number parts.declared in
      let three = at_both (two_of version r) _ 16 8 refl two parts.accepted in
      let four = at_both (three_of version r) _ 24 8 refl three parts.text_len in
      let state = at_both (four_of version r) _ 32 32 refl four parts.state in
      let head =
      at_both (state_end version r) _ 64 2 (length-state_end version r size) state parts.metadata_len in
      let metadata =
      at_both (head_of version r) _ 66 (length r.metadata) (length-head version r size) head parts.metadata in
      let room = at_both (metadata_end version r) _ (66 + length r.metadata) (MOST_METADATA - length r.metadata)
      (length-metadata_end version r size) metadata (to_zeros (MOST_METADATA - length r.metadata)
      (rw (sym at) at parts.room)) in
      let full : 66 + length r.metadata + (MOST_METADATA - length r.metadata) ≡ 1602 = omega (arith, few) in
      rw (record_is version r) at (at_both (room_end version r) _ 1602 1 (length-room_end version r size few)
      (rw full at room) (one_at parts.tag))

-- the bytes of a range
pub range_is : (bytes xs : List ℕ) (at end size : ℕ) → AreAt (byte_of bytes) at size xs → length xs ≤ size
    → at + length xs ≡ end → end ≤ length bytes → slice_range bytes at end ≡ xs
range_is bytes xs at end size are_at few is fits =
    ext_get_or 0 (slice_range bytes at end) xs (grind (arith, common_steps))
    (λ i lt. grind (arith, common_steps, are_at.each i, length-range bytes at end fits))

pub no_number : (bytes : List ℕ) → IsPadded bytes [] → AreAt (byte_of bytes) 0 8 (to_be_bytes w64 0)
no_number bytes padded = record { each = λ i lt. grind (arith, padded.each i, (padded_zeros 8).each i) }

pub record_eq : (r : SlotRecord) (n : ℕ) (d : Option ℕ) (a t : ℕ) (s m : List ℕ) → n ≡ r.number → d ≡ r.declared → a
    ≡ r.accepted
    → t ≡ r.text_len → s ≡ r.state → m ≡ r.metadata
    → record { number = n; declared = d; accepted = a; text_len = t; state = s; metadata = m } ≡ r
record_eq r n d a t s m e1 e2 e3 e4 e5 e6 = rw (e1, e2, e3, e4, e5, e6)

pub slot_few : (version : Version) (slot : Option SlotRecord) → FitsSlotOf slot
    → length (slot_bytes version slot) ≤ 2048
slot_few version None fits = omega arith
slot_few version (Some r) fits = omega (arith, length-record version r fits.0.state fits.0.metadata)
