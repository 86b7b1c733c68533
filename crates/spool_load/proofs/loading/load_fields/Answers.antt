use Rattle.std.proofs.Common.{ℕ, arith, rules, subst}
use Rattle.spool_disk.proofs.Gave.{between_more, between_on}
use Rattle.spool_disk.proofs.Firm.{counts_on}
use Rattle.spool_journal.specs.declared.TheConstants.{PAGE}
use Rattle.spool_pages.specs.View.{AreAt, first_page, index_place, state_place}
use Rattle.spool_load.proofs.Looks.{gave_first, gave_rest, if_ok_more, ok_no_fault, reads_on}
use Rattle.spool_load.proofs.ValidViews.{area_encoded}
use Rattle.spool_load.proofs.loading.load_fields.Goals as goal

pub returns-in_err-check_first-clause-decoded : goal.returns-in_err-check_first-clause-decoded
returns-in_err-check_first-clause-decoded g c bytes gave v valid blocks encodes =
    let loaded =
    c.in_err-check_first.ensures.decoded bytes gave
    (subst (λ (n : ℕ). AreAt bytes 0 PAGE (first_page n)) blocks encodes.first) in
    search rules

pub returns-clause-reads : goal.returns-clause-reads
returns-clause-reads g c = reads_on c.check_first.ensures.reads c.load_indexes.ensures.reads

pub returns-clause-counts : goal.returns-clause-counts
returns-clause-counts g c =
    counts_on c.check_first.ensures.counts (ok_no_fault _ _ c.in_ok-check_first.was) c.load_indexes.ensures.counts

pub returns-clause-decoded : goal.returns-clause-decoded
returns-clause-decoded g c bytes gave v valid blocks encodes =
    area_encoded bytes c.args.layout.now v valid blocks encodes
    (c.load_indexes.ensures.decoded bytes (gave_rest c.check_first.ensures.reads c.load_indexes.ensures.reads gave))

pub returns-clause-valid : goal.returns-clause-valid
returns-clause-valid g c bytes gave =
    let page =
    c.in_ok-check_first.ensures.valid bytes (gave_first c.check_first.ensures.reads c.load_indexes.ensures.reads gave)
    in
    if_ok_more c.load_indexes.result (λ x area. record { first = page; area = area })
    (c.load_indexes.ensures.valid bytes (gave_rest c.check_first.ensures.reads c.load_indexes.ensures.reads gave))

pub returns-in_err-check_first-clause-once : goal.returns-in_err-check_first-clause-once
returns-in_err-check_first-clause-once g c =
    between_more 0 PAGE c.check_first.ensures.once 0 (state_place c.args.layout.now) (omega arith) (omega arith)

pub returns-clause-once : goal.returns-clause-once
returns-clause-once g c =
    let n = c.args.layout.now in
    between_on 0 PAGE c.check_first.ensures.once (index_place n) (state_place n) c.load_indexes.ensures.once
    (omega arith) (omega arith) (omega arith)
