use Rattle.std.proofs.Common.{◌≡◌, ◌+◌, ◌*◌, ℕ, length, rules, subst, arith}
use Rattle.common.specs.declared.limits.TheConstants.{ROWS, SLOTS}
use Rattle.spool_journal.specs.declared.TheConstants.{PAGE}
use Rattle.spool_pages.specs.View.{row_place}
use Rattle.spool_load.specs.Reads.{IsSameTo}
use Rattle.spool_load.proofs.Looks.{before_texts, rows_read, rows_at_place, part_once, read_is}
use Rattle.spool_load.proofs.owners.load_page.Goals as goal

pub read_at-requires : goal.read_at-requires
read_at-requires g c =
    before_texts c.args.layout.now _ _ c.requires.room (omega (arith, c.requires.page, c.rows_place.ensures))

pub returns-in_err-fill-clause-decoded : goal.returns-in_err-fill-clause-decoded
returns-in_err-fill-clause-decoded g c bytes gave all long fits are_at was =
    let wide : length c.read_at.new.buf ≡ PAGE = search rules in
    absurd (c.in_err-fill.ensures.decoded all long fits
    (rows_at_place bytes c.args.layout.now _ c.args.page c.read_at.new.buf all
    (read_is bytes _ _ c.in_ok-read_at.ensures.given gave) wide (omega (arith, c.rows_place.ensures))
    c.requires.page are_at) was)

pub returns-clause-decoded : goal.returns-clause-decoded
returns-clause-decoded g c bytes gave all long fits are_at was =
    let page = c.args.page in
    let wide : length c.read_at.new.buf ≡ PAGE = search rules in
    let filled =
    c.in_ok-fill.ensures.decoded all long fits
    (rows_at_place bytes c.args.layout.now _ page c.read_at.new.buf all
    (read_is bytes _ _ c.in_ok-read_at.ensures.given gave) wide (omega (arith, c.rows_place.ensures))
    c.requires.page are_at) was in
    let e : ROWS * page + SLOTS ≡ ROWS * (page + 1) = omega arith in
    subst (λ (m : ℕ). IsSameTo m all c.fill.new.rows) e filled

pub returns-clause-valid : goal.returns-clause-valid
returns-clause-valid g c bytes gave was =
    let n = c.args.layout.now in
    let page = c.args.page in
    let wide : length c.read_at.new.buf ≡ PAGE = search rules in
    rows_read bytes n _ page c.read_at.new.buf c.args.rows.now c.fill.new.rows
    (read_is bytes _ _ c.in_ok-read_at.ensures.given gave) wide (omega (arith, c.rows_place.ensures)) was
    c.fill.ensures.before c.in_ok-fill.ensures.valid

pub returns-in_err-read_at-clause-once : goal.returns-in_err-read_at-clause-once
returns-in_err-read_at-clause-once g c =
    let n = c.args.layout.now in
    let wide : length c.read_at.new.buf ≡ PAGE = search rules in
    part_once _ _ c.read_at.result c.read_at.ensures.given c.read_at.ensures.none
    (row_place n (ROWS * c.args.page)) (row_place n (ROWS * (c.args.page + 1))) (omega (arith, c.rows_place.ensures))
    (omega (arith, wide, c.rows_place.ensures))

pub returns-in_err-fill-clause-once : goal.returns-in_err-fill-clause-once
returns-in_err-fill-clause-once g c =
    let n = c.args.layout.now in
    let wide : length c.read_at.new.buf ≡ PAGE = search rules in
    part_once _ _ c.read_at.result c.read_at.ensures.given c.read_at.ensures.none
    (row_place n (ROWS * c.args.page)) (row_place n (ROWS * (c.args.page + 1))) (omega (arith, c.rows_place.ensures))
    (omega (arith, wide, c.rows_place.ensures))

pub returns-clause-once : goal.returns-clause-once
returns-clause-once g c =
    let n = c.args.layout.now in
    let wide : length c.read_at.new.buf ≡ PAGE = search rules in
    part_once _ _ c.read_at.result c.read_at.ensures.given c.read_at.ensures.none
    (row_place n (ROWS * c.args.page)) (row_place n (ROWS * (c.args.page + 1))) (omega (arith, c.rows_place.ensures))
    (omega (arith, wide, c.rows_place.ensures))
