use Rattle.std.proofs.Common.{◌≡◌, ◌+◌, ◌*◌, ℕ, length, rules, arith}
use Rattle.spool_journal.specs.declared.TheConstants.{PAGE}
use Rattle.spool_pages.specs.View.{index_place}
use Rattle.spool_pages.proofs.Encodes.{some_journal}
use Rattle.spool_load.proofs.Looks.{before_texts, read_more, part_once, read_is}
use Rattle.spool_load.proofs.reading.push_area_page.Goals as goal

pub read_at-requires : goal.read_at-requires
read_at-requires g c =
    before_texts c.args.layout.now _ _ c.requires.room
    (omega (arith, some_journal c.args.layout.now, c.requires.page, c.index_place.ensures))

pub returns-clause-pushed : goal.returns-clause-pushed
returns-clause-pushed g c bytes gave was long =
    let here : index_place c.args.layout.now + length c.args.area.now.items ≡ c.index_place.result =
    omega (arith, long, c.index_place.ensures) in
    read_more bytes _ _ c.args.area.now.items c.read_at.new.buf c.extend_from_slice.new.self.items was
    (read_is bytes _ _ c.in_ok-read_at.ensures.given gave) here (search rules)

pub returns-in_err-read_at-clause-once : goal.returns-in_err-read_at-clause-once
returns-in_err-read_at-clause-once g c =
    let wide : length c.read_at.new.buf ≡ PAGE = search rules in
    let at : ℕ = index_place c.args.layout.now in
    part_once _ _ c.read_at.result c.read_at.ensures.given c.read_at.ensures.none
    (at + PAGE * c.args.page) (at + PAGE * (c.args.page + 1)) (omega (arith, c.index_place.ensures))
    (omega (arith, wide, c.index_place.ensures))

pub returns-in_err-extend_from_slice-clause-once : goal.returns-in_err-extend_from_slice-clause-once
returns-in_err-extend_from_slice-clause-once g c =
    let wide : length c.read_at.new.buf ≡ PAGE = search rules in
    let at : ℕ = index_place c.args.layout.now in
    part_once _ _ c.read_at.result c.read_at.ensures.given c.read_at.ensures.none
    (at + PAGE * c.args.page) (at + PAGE * (c.args.page + 1)) (omega (arith, c.index_place.ensures))
    (omega (arith, wide, c.index_place.ensures))

pub returns-clause-once : goal.returns-clause-once
returns-clause-once g c =
    let wide : length c.read_at.new.buf ≡ PAGE = search rules in
    let at : ℕ = index_place c.args.layout.now in
    part_once _ _ c.read_at.result c.read_at.ensures.given c.read_at.ensures.none
    (at + PAGE * c.args.page) (at + PAGE * (c.args.page + 1)) (omega (arith, c.index_place.ensures))
    (omega (arith, wide, c.index_place.ensures))
