use Rattle.std.proofs.Common.{rules, ◌≡◌, ◌≤◌, ◌-◌, [], ◌∷◌, ℕ, length, ◌++◌, refl, ap}
use Rattle.std.specs.Int.{to_be_bytes, w64}
use Rattle.common.specs.declared.limits.TheConstants.{MOST_METADATA}
use Rattle.spool_pages.specs.Bytes.{IsPadded}
use Rattle.spool_pages.specs.View.{SlotRecord, length_number, length_tag}
use Rattle.spool_pages.proofs.Bytes.{padded_zeros, padded_room}
use Rattle.spool_pages.proofs.RecordBytes.{pad, two_of, three_of, four_of, state_end, head_of, metadata_end, room_end}
use Rattle.spool_pages.proofs.RecordBytes.{length-state_end, length-head, length-room_end, record_is}
use Rattle.spool_pages.proofs.records.BorrowedRecord.to_bytes.Goals as goal

pub returns : goal.returns
returns c =
    let i = c.self.inside in
    let r : SlotRecord = record {
      number = i.number;
      declared = i.declared;
      accepted = i.accepted;
      text_len = i.text_len;
      state = i.state;
      metadata = i.metadata.now;
    } in
    let v = c.args.version in
    let size : length i.state ≡ 32 = search rules in
    let few : length r.metadata ≤ MOST_METADATA = search rules in
    let one : IsPadded c.put.new.page (to_be_bytes w64 r.number) =
    pad [] _ c.to_be_bytes.ensures (c.put.ensures.padded [] refl (padded_zeros 2048)) in
    let length_is : c.to_be_bytes-2.result ≡ to_be_bytes w64 (length_number v r.declared) =
    rw c.length_fields-length.ensures at c.to_be_bytes-2.ensures in
    let two : IsPadded c.put-2.new.page (two_of v r) =
    pad (to_be_bytes w64 r.number) _ length_is (c.put-2.ensures.padded (to_be_bytes w64 r.number) refl one) in
    let three : IsPadded c.put-3.new.page (three_of v r) =
    pad (two_of v r) _ c.to_be_bytes-3.ensures (c.put-3.ensures.padded (two_of v r) refl two) in
    let four : IsPadded c.put-4.new.page (four_of v r) =
    pad (three_of v r) _ c.to_be_bytes-4.ensures (c.put-4.ensures.padded (three_of v r) refl three) in
    let five : IsPadded c.put-5.new.page (state_end v r) = c.put-5.ensures.padded (four_of v r) refl four in
    let six : IsPadded c.put-6.new.page (head_of v r) =
    pad (state_end v r) _ c.to_be_bytes-5.ensures
    (c.put-6.ensures.padded (state_end v r) (length-state_end v r size) five) in
    let seven : IsPadded c.put-7.new.page (metadata_end v r) =
    c.put-7.ensures.padded (head_of v r) (length-head v r size) six in
    let room : IsPadded c.put-7.new.page (room_end v r) =
    padded_room c.put-7.new.page (metadata_end v r) (MOST_METADATA - length r.metadata) seven in
    let eight : IsPadded c.put-8.new.page (room_end v r ++ length_tag v r.declared ∷ []) =
    pad (room_end v r) _ (ap (λ (fields : ℕ × ℕ). fields.1 ∷ []) c.length_fields-length.ensures)
    (c.put-8.ensures.padded (room_end v r) (length-room_end v r size few) room) in
    rw c.self.view_is at (rw (record_is v r) at eight)
