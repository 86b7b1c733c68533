use Rattle.std.proofs.Common.{◌≡◌, ◌+◌, ◌-◌, ◌*◌, ℕ, get_or, sym, ◌∙◌, ap, arith}
use Rattle.spool_journal.specs.declared.TheConstants.{PAGE}
use Rattle.enc_index.specs.Area.{area_byte}
use Rattle.spool_pages.specs.declared.version.Version.TheVariants.{Two}
use Rattle.spool_pages.specs.View.{index_place, state_page}
use Rattle.spool_image.proofs.Fresh.{fresh_prefix, fresh_area, fresh_state, fresh_zeros}
use Rattle.spool_image.proofs.formatting.fresh_page.Goals as goal

pub returns-then-page-index_page-clause-bytes : goal.returns-then-page-index_page-clause-bytes
returns-then-page-index_page-clause-bytes c i lt =
    c.blank_page.ensures.each i
    ∙ sym (fresh_prefix c.args.layout.now c.args.indexes.now (PAGE * c.args.page + i) (omega arith))

pub returns-then-page-metadata_page-clause-bytes : goal.returns-then-page-metadata_page-clause-bytes
returns-then-page-metadata_page-clause-bytes c i lt =
    let n = c.args.layout.now in
    let at : PAGE * (c.args.page - c.index_page-index_page.result) + i ≡ PAGE * c.args.page + i - index_place n =
    omega arith in
    c.to_area.ensures.bytes i lt ∙ ap (λ (p : ℕ). area_byte c.args.indexes.now p) at
    ∙ sym (fresh_area n c.args.indexes.now (PAGE * c.args.page + i) (omega arith) (omega arith))

pub returns-then-page-metadata_page-2-clause-bytes : goal.returns-then-page-metadata_page-2-clause-bytes
returns-then-page-metadata_page-2-clause-bytes c i lt =
    let n = c.args.layout.now in
    let at : i ≡ PAGE * c.args.page + i - index_place n - PAGE * 22 = omega arith in
    c.state_page.ensures.each i ∙ ap (λ (p : ℕ). get_or (state_page Two 1) p 0) (omega arith)
    ∙ sym (fresh_state n c.args.indexes.now (PAGE * c.args.page + i) (omega arith))

pub returns-clause-bytes : goal.returns-clause-bytes
returns-clause-bytes c i lt =
    c.blank_page-2.ensures.each i
    ∙ sym (fresh_zeros c.args.layout.now c.args.indexes.now (PAGE * c.args.page + i) (omega arith))
