use Rattle.std.proofs.Common.{◌≡◌, ◌∙◌, ℕ, List, Option, length, replicate, false, rules, sym, ap, subst}
use Rattle.std.proofs.lemmas.Bool.{false≢true}
use Rattle.spool_pages.specs.View.{SlotRecord}
use Rattle.spool_catalog.specs.Checks.{RowsPass}
use Rattle.spool_load.proofs.ValidViews.{rows_encoded, valid_rows}
use Rattle.spool_load.proofs.loading.load_blocks.Goals as goal

pub returns-in_err-rows-clause-decoded : goal.returns-in_err-rows-clause-decoded
returns-in_err-rows-clause-decoded g c bytes gave v valid blocks encodes same =
    let loaded =
    rows_encoded bytes c.args.layout.now v valid blocks encodes (c.in_err-rows.ensures.decoded bytes gave) in
    search rules

pub returns-then-not-are_rows_valid-clause-decoded : goal.returns-then-not-are_rows_valid-clause-decoded
returns-then-not-are_rows_valid-clause-decoded g c bytes gave v valid blocks encodes same =
    let rows : c.in_ok-rows.rows.items ≡ v.rows =
    rows_encoded bytes c.args.layout.now v valid blocks encodes (c.in_ok-rows.ensures.decoded bytes gave) in
    let looked : c.deref.result.now ≡ v.rows = search rules in
    let owned =
    subst (λ (slots : List (Option SlotRecord)). RowsPass slots v.rows) (sym same) (valid_rows v valid) in
    let passes =
    c.are_rows_valid.ensures.valid.1
    (subst (λ (rs : List (Option (ℕ × ℕ))). RowsPass c.args.slots.now rs) (sym looked) owned) in
    absurd (false≢true (sym c.if-not-are_rows_valid.true ∙ passes))

pub returns-clause-decoded : goal.returns-clause-decoded
returns-clause-decoded g c bytes gave v valid blocks encodes same =
    let rows : c.in_ok-rows.rows.items ≡ v.rows =
    rows_encoded bytes c.args.layout.now v valid blocks encodes (c.in_ok-rows.ensures.decoded bytes gave) in (
      c.in_ok-blocks.ensures.rows ∙ rows,
      c.in_ok-blocks.ensures.reserved ∙ ap
          (λ (xs : List (Option (ℕ × ℕ))). replicate (length xs) false) rows ∙ ap (λ (n : ℕ). replicate n false)
          valid.row_count,
    )
