use Rattle.std.proofs.Common.{◌≡◌, ◌+◌, length, rules, arith}
use Rattle.spool_pages.specs.View.{slot_place, slot_bytes}
use Rattle.spool_pages.proofs.Encodes.{some_journal}
use Rattle.spool_load.proofs.Faults.{check_sound, check_reported}
use Rattle.spool_load.proofs.Looks.{before_texts, read_padded, padded_back, part_once, read_is}
use Rattle.spool_catalog.proofs.Valid.{fits_slot}
use Rattle.spool_pages.proofs.RecordBytes.{slot_few}
use Rattle.spool_load.proofs.slots.load_slot.Goals as goal

pub read_at-requires : goal.read_at-requires
read_at-requires g c =
    before_texts c.args.layout.now _ _ c.requires.room
    (omega (arith, some_journal c.args.layout.now, c.requires.slot, c.slot_place.ensures))

pub returns-in_err-catalog_record_of-clause-decoded : goal.returns-in_err-catalog_record_of-clause-decoded
returns-in_err-catalog_record_of-clause-decoded g c bytes gave decoded fits are_at =
    let here : c.slot_place.result ≡ slot_place c.args.layout.now c.args.slot = omega (arith, c.slot_place.ensures) in
    let shown =
    check_reported c.in_err-catalog_record_of.field-0.0
    (c.in_err-catalog_record_of.ensures.decoded decoded fits
    (read_padded bytes _ _ c.read_at.new.buf (slot_bytes c.args.version decoded) 2048
    (read_is bytes _ _ c.in_ok-read_at.ensures.given gave)
    (search rules) here (slot_few c.args.version decoded (fits_slot decoded fits)) are_at)) in
    search rules

pub returns-in_err-catalog_record_of-clause-counts : goal.returns-in_err-catalog_record_of-clause-counts
returns-in_err-catalog_record_of-clause-counts g c =
    let sound = check_sound c.in_err-catalog_record_of.field-0.0 in
    search rules

pub returns-clause-decoded : goal.returns-clause-decoded
returns-clause-decoded g c bytes gave decoded fits are_at =
    let here : c.slot_place.result ≡ slot_place c.args.layout.now c.args.slot = omega (arith, c.slot_place.ensures) in
    c.in_ok-catalog_record_of.ensures.decoded decoded fits
    (read_padded bytes _ _ c.read_at.new.buf (slot_bytes c.args.version decoded) 2048
    (read_is bytes _ _ c.in_ok-read_at.ensures.given gave)
    (search rules) here (slot_few c.args.version decoded (fits_slot decoded fits)) are_at)

pub returns-clause-are_at : goal.returns-clause-are_at
returns-clause-are_at g c bytes gave =
    let here : slot_place c.args.layout.now c.args.slot ≡ c.slot_place.result = omega (arith, c.slot_place.ensures) in
    padded_back bytes _ (slot_place c.args.layout.now c.args.slot) c.read_at.new.buf
    (slot_bytes c.args.version c.in_ok-catalog_record_of.field-0) 2048
    (read_is bytes _ _ c.in_ok-read_at.ensures.given gave) (search rules) here c.in_ok-catalog_record_of.ensures.are_at

pub returns-in_err-read_at-clause-once : goal.returns-in_err-read_at-clause-once
returns-in_err-read_at-clause-once g c =
    let n = c.args.layout.now in
    let wide : length c.read_at.new.buf ≡ 2048 = search rules in
    part_once _ _ c.read_at.result c.read_at.ensures.given c.read_at.ensures.none
    (slot_place n c.args.slot) (slot_place n (c.args.slot + 1)) (omega (arith, c.slot_place.ensures))
    (omega (arith, wide, c.slot_place.ensures))

pub returns-in_err-catalog_record_of-clause-once : goal.returns-in_err-catalog_record_of-clause-once
returns-in_err-catalog_record_of-clause-once g c =
    let n = c.args.layout.now in
    let wide : length c.read_at.new.buf ≡ 2048 = search rules in
    part_once _ _ c.read_at.result c.read_at.ensures.given c.read_at.ensures.none
    (slot_place n c.args.slot) (slot_place n (c.args.slot + 1)) (omega (arith, c.slot_place.ensures))
    (omega (arith, wide, c.slot_place.ensures))

pub returns-clause-once : goal.returns-clause-once
returns-clause-once g c =
    let n = c.args.layout.now in
    let wide : length c.read_at.new.buf ≡ 2048 = search rules in
    part_once _ _ c.read_at.result c.read_at.ensures.given c.read_at.ensures.none
    (slot_place n c.args.slot) (slot_place n (c.args.slot + 1)) (omega (arith, c.slot_place.ensures))
    (omega (arith, wide, c.slot_place.ensures))
