use Rattle.std.proofs.Common.{◌≡◌, ◌∙◌, ◌-◌, ◌*◌, ℕ, List, Option, length, refl, rules, sym, subst, arith}
use Rattle.common.specs.declared.limits.TheConstants.{ROWS}
use Rattle.spool_journal.specs.Image.{journal_pages}
use Rattle.spool_disk.proofs.Gave.{once_none}
use Rattle.spool_load.specs.Reads.{RowsAreAt}
use Rattle.spool_load.proofs.Looks.{reads_none, same_all, take_new}
use Rattle.spool_catalog.proofs.Valid.{rows_cover}
use Rattle.spool_load.proofs.owners.load_rows.Goals as goal

pub returns-in_err-load_pages-clause-decoded : goal.returns-in_err-load_pages-clause-decoded
returns-in_err-load_pages-clause-decoded g c bytes gave all long fits are_at =
    let size : length c.in_ok-rows.rows.items ≡ c.args.layout.now = search rules in
    let read = c.in_err-load_pages.ensures.decoded bytes gave all (omega (arith, size, long)) fits are_at in
    search rules

pub returns-clause-valid : goal.returns-clause-valid
returns-clause-valid g c bytes gave =
    let n = c.args.layout.now in
    let same : length c.load_pages.new.rows ≡ length c.in_ok-rows.rows.items = search rules in
    let P : List (Option (ℕ × ℕ)) → Type 0 = RowsAreAt bytes n (ROWS * (journal_pages n - 257)) in
    subst P (sym (take_new _ _ _ (search rules))) (c.in_ok-load_pages.ensures.valid bytes gave)

pub returns-clause-decoded : goal.returns-clause-decoded
returns-clause-decoded g c bytes gave all long fits are_at =
    let n = c.args.layout.now in
    let size : length c.in_ok-rows.rows.items ≡ n = search rules in
    let same : length c.load_pages.new.rows ≡ length c.in_ok-rows.rows.items = search rules in
    let decoded = c.in_ok-load_pages.ensures.decoded bytes gave all (omega (arith, size, long)) fits are_at in
    take_new _ _ _ (search rules) ∙ same_all _ all c.load_pages.new.rows decoded (omega (arith, same, size, long))
    (omega (arith, same, size, rows_cover n))

pub returns-in_err-rows-clause-reads : goal.returns-in_err-rows-clause-reads
returns-in_err-rows-clause-reads g c = reads_none c.args.disk.now

pub returns-in_err-rows-clause-once : goal.returns-in_err-rows-clause-once
returns-in_err-rows-clause-once g c = once_none refl
