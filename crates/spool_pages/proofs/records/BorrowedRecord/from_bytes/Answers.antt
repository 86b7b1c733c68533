use Rattle.std.proofs.Common.{rules, sym, ◌≤◌, ◌≡◌, ◌+◌, ◌-◌, ℕ, [], length, Ok, Some, List, IsTrue, ◌∙◌, ap, arith}
use Rattle.std.specs.List.{slice_range}
use Rattle.common.specs.declared.limits.TheConstants.{MOST_METADATA}
use Rattle.spool_journal.specs.Image.{byte_of}
use Rattle.spool_pages.specs.Bytes.{IsPadded}
use Rattle.spool_pages.specs.Fits.{FitsSlot}
use Rattle.spool_pages.specs.View.{SlotRecord, record_bytes}
use Rattle.spool_pages.specs.declared.version.Version.{Version}
use Rattle.spool_pages.proofs.Blank.{with_blank_rest, blank_rest, range_blank, blank_range}
use Rattle.spool_pages.proofs.Numbers.{eight_are}
use Rattle.spool_pages.proofs.RecordBytes.{PartsAt, parts_of, padded_at, length-range, of_parts, range_is}
use Rattle.spool_pages.proofs.RecordBytes.{range_at, no_number, number_fits, record_eq, length-record}
use Rattle.spool_pages.proofs.records.BorrowedRecord.from_bytes.Goals as goal
use Rattle.spool_pages.proofs.records.BorrowedRecord.from_bytes.Goals.{then-number-eq0-via-then-number-eq0}
use Rattle.spool_pages.proofs.records.BorrowedRecord.from_bytes.Goals.{then-number-eq0-via-else-number-eq0+then-metadata_end-gt-TAG}
use Rattle.spool_pages.proofs.records.BorrowedRecord.from_bytes.Goals.{then-number-eq0-via-else-number-eq0+else-metadata_end-gt-TAG+then-not-is_blank}
use Rattle.spool_pages.proofs.records.BorrowedRecord.from_bytes.Goals.{then-number-eq0-via-else-number-eq0+else-metadata_end-gt-TAG+else-not-is_blank+then-not-is_blank-2}

module _ (bytes : List ℕ) (version : Version) (r : SlotRecord) (fits : FitsSlot r)
    (padded : IsPadded bytes (record_bytes version r)) where
  parts : PartsAt (byte_of bytes) version r
  parts = parts_of (byte_of bytes) version r fits.state fits.metadata (padded_at 2048 padded)

  -- a record's bytes aren't all 0
  not_blank : IsPadded bytes [] → ⊥
  not_blank blank =
      omega (
        arith,
        fits.some,
        eight_are bytes 0 r.number fits.number parts.number,
        eight_are bytes 0 0 (omega arith) (no_number bytes blank),
      )

  -- zeros in the rest of the metadata's room, and after the tag
  room_blank : (end : ℕ) → end ≡ 66 + length r.metadata → IsPadded (slice_range bytes end 1602) []
  room_blank end is =
      let size : 1602 - end ≡ MOST_METADATA - length r.metadata = omega (arith, is) in
      range_blank bytes end 1602 (rw (size, is) parts.room)

  rest_blank : length bytes ≡ 2048 → IsPadded (slice_range bytes 1603 2048) []
  rest_blank long = blank_rest bytes 1603 445 (sym long) (record_bytes version r)
      (length-record version r fits.state fits.metadata) padded

pub returns-then-is_blank-clause-used : goal.returns-then-is_blank-clause-used
returns-then-is_blank-clause-used c r fits padded =
    absurd (not_blank c.args.bytes.now c.args.version r fits padded (c.is_blank.ensures.0 c.if-is_blank.true))

pub returns-then-number-eq0-clause-used : goal.returns-then-number-eq0-clause-used
returns-then-number-eq0-clause-used c r fits padded =
    let at = parts c.args.bytes.now c.args.version r fits padded in
    let number_is : c.get_u64-number.result ≡ r.number = c.get_u64-number.ensures.is r.number fits.number at.number in
    let len_is : c.get_u16.result ≡ length r.metadata =
    c.get_u16.ensures.is (length r.metadata) (omega (arith, fits.metadata)) at.metadata_len in
    elim c.then-number-eq0.branch [
      | then-number-eq0-via-then-number-eq0 w ↦ absurd (omega (arith, number_is, fits.some, w.if-number-eq0.true))
      | then-number-eq0-via-else-number-eq0+then-metadata_end-gt-TAG w ↦
          absurd (omega (arith, len_is, fits.metadata, w.if-metadata_end-gt-TAG.true))
      | then-number-eq0-via-else-number-eq0+else-metadata_end-gt-TAG+then-not-is_blank w ↦
          let room = room_blank c.args.bytes.now c.args.version r fits padded (66 + c.get_u16.result)
          (omega (arith, len_is)) in
          let yes : IsTrue w.is_blank-else-metadata_end-gt-TAG.result =
          w.is_blank-else-metadata_end-gt-TAG.ensures.1 room in
          let no = w.if-not-is_blank.true in
          absurd (cc)
      | then-number-eq0-via-else-number-eq0+else-metadata_end-gt-TAG+else-not-is_blank+then-not-is_blank-2 w ↦
          let rest = rest_blank c.args.bytes.now c.args.version r fits padded (search rules) in
          let yes : IsTrue w.is_blank-else-not-is_blank.result = w.is_blank-else-not-is_blank.ensures.1 rest in
          let no = w.if-not-is_blank-2.true in
          absurd (cc)
    ]

pub returns-in_err-declared-clause-used : goal.returns-in_err-declared-clause-used
returns-in_err-declared-clause-used c r fits padded =
    let at = parts c.args.bytes.now c.args.version r fits padded in
    let known = c.declared_in.ensures.is r.declared fits.declared
    (c.get_u64.ensures.is _ (number_fits c.args.version r.declared fits.declared) at.declared) at.tag in
    let damaged = c.in_err-declared.was in
    absurd (cc)

pub returns-clause-used : goal.returns-clause-used
returns-clause-used c r fits padded =
    let at = parts c.args.bytes.now c.args.version r fits padded in
    let is : c.get_u16.result ≡ length r.metadata =
    c.get_u16.ensures.is (length r.metadata) (omega (arith, fits.metadata)) at.metadata_len in
    let known = c.declared_in.ensures.is r.declared fits.declared
    (c.get_u64.ensures.is _ (number_fits c.args.version r.declared fits.declared) at.declared) at.tag in
    let encoded = c.in_ok-declared.was in
    let declared_is : c.in_ok-declared.declared ≡ r.declared = cc in
    let state = c.copy_from_slice.ensures.after in
    let long : length c.args.bytes.now ≡ 2048 = search rules in
    let state_is : c.copy_from_slice.new.self ≡ r.state =
    state
    ∙ range_is c.args.bytes.now r.state 32 64 32 at.state (omega (arith, fits.state)) (omega (arith, fits.state))
    (omega (arith, long)) in
    let metadata_is =
    range_is c.args.bytes.now r.metadata 66 (66 + c.get_u16.result) (length r.metadata) at.metadata (omega arith)
    (omega (arith, is)) (omega (arith, long, is, fits.metadata)) in
    ap (λ (x : SlotRecord). Ok (Some x))
    (record_eq r c.get_u64-number.result c.in_ok-declared.declared c.get_u64-2.result c.get_u64-3.result
    c.copy_from_slice.new.self _
    (c.get_u64-number.ensures.is r.number fits.number at.number) declared_is
    (c.get_u64-2.ensures.is r.accepted fits.accepted at.accepted)
    (c.get_u64-3.ensures.is r.text_len fits.text_len at.text_len)
    state_is metadata_is)

pub returns-clause-valid : goal.returns-clause-valid
returns-clause-valid c =
    let bytes = c.args.bytes.now in
    let len = c.get_u16.result in
    let long : length bytes ≡ 2048 = search rules in
    let few : len ≤ MOST_METADATA = omega (arith, c.if-metadata_end-gt-TAG.false) in
    let state : c.copy_from_slice.new.self ≡ slice_range bytes 32 64 = c.copy_from_slice.ensures.after in
    let size : length c.copy_from_slice.new.self ≡ 32 =
    ap length state ∙ length-range bytes 32 64 (omega (arith, long)) in
    let metadata_size : length (slice_range bytes 66 (66 + len)) ≡ len =
    omega (arith, length-range bytes 66 (66 + len) (omega (arith, long, few))) in
    let room = blank_range bytes (66 + len) 1602 (c.is_blank-else-metadata_end-gt-TAG.ensures.0 (search rules)) in
    let room_len : MOST_METADATA - len ≡ 1602 - (66 + len) = omega arith in
    let encoded = c.in_ok-declared.ensures in
    let prefix =
    of_parts (byte_of bytes) c.args.version _ size (omega (arith, metadata_size, few)) record {
      number = c.get_u64-number.ensures.there;
      declared = rw encoded.number c.get_u64.ensures.there;
      accepted = c.get_u64-2.ensures.there;
      text_len = c.get_u64-3.ensures.there;
      state = rw state (range_at bytes 32 64 32 (omega arith));
      metadata_len = rw metadata_size c.get_u16.ensures.there;
      metadata = rw metadata_size (range_at bytes 66 (66 + len) len (omega arith));
      room = rw (metadata_size, room_len) room;
      tag = sym encoded.tag;
    } in
    with_blank_rest bytes 1603 445 (sym long) (record_bytes c.args.version _)
    (length-record c.args.version _ size (omega (arith, metadata_size, few))) prefix
    (c.is_blank-else-not-is_blank.ensures.0 (search rules))
