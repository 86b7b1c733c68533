use Rattle.std.proofs.Common.{◌≡◌, ◌∙◌, ◌+◌, ◌-◌, ◌*◌, ℕ, List, refl, rules, subst, arith}
use Rattle.common.specs.declared.given.GivenRead.{GivenRead}
use Rattle.spool_disk.specs.Given.{Between, ReadsOnce}
use Rattle.spool_disk.proofs.Gave.{between_more, between_on, once_none}
use Rattle.spool_pages.specs.View.{row_place}
use Rattle.common.specs.declared.limits.TheConstants.{ROWS}
use Rattle.spool_journal.specs.Image.{journal_pages}
use Rattle.spool_load.specs.Reads.{IsSameTo, RowsAreAt}
use Rattle.spool_journal.proofs.Steps.{no_failure}
use Rattle.spool_load.proofs.Looks.{gave_first, gave_rest, ok_no_fault, reads_none, reads_on}
use Rattle.spool_load.proofs.owners.load_pages.Goals as goal

pub returns-in_err-load_page-clause-decoded : goal.returns-in_err-load_page-clause-decoded
returns-in_err-load_page-clause-decoded g c bytes gave all long fits are_at =
    let inv = c.loop-page.invariant in
    let read =
    c.in_err-load_page.ensures.decoded bytes (gave_rest inv.reads c.load_page.ensures.reads gave) all (search rules)
    fits
    are_at (inv.decoded bytes (gave_first inv.reads c.load_page.ensures.reads gave) all long fits are_at) in
    search rules

pub returns-clause-decoded : goal.returns-clause-decoded
returns-clause-decoded g c bytes gave all long fits are_at =
    let n = c.args.layout.now in
    let e : ROWS * c.loop-page.page ≡ ROWS * (journal_pages n - 257) =
    omega (arith, c.row_pages-page-end.ensures.pages) in
    subst (λ (m : ℕ). IsSameTo m all c.loop-page.rows) e
    (c.loop-page.invariant.decoded bytes gave all long fits are_at)

pub returns-clause-valid : goal.returns-clause-valid
returns-clause-valid g c bytes gave =
    let n = c.args.layout.now in
    let e : ROWS * c.loop-page.page ≡ ROWS * (journal_pages n - 257) =
    omega (arith, c.row_pages-page-end.ensures.pages) in
    subst (λ (m : ℕ). RowsAreAt bytes n m c.loop-page.rows) e (c.loop-page.invariant.valid bytes gave)

-- the pages before, and one more
read_page : (n page : ℕ) {a b c : List GivenRead}
    → ReadsOnce (Between (row_place n 0) (row_place n (ROWS * page))) a b
    → ReadsOnce (Between (row_place n (ROWS * page)) (row_place n (ROWS * (page + 1)))) b c
    → ReadsOnce (Between (row_place n 0) (row_place n (ROWS * (page + 1)))) a c
read_page n page before one =
    between_on (row_place n 0) (row_place n (ROWS * page)) before (row_place n (ROWS * page))
    (row_place n (ROWS * (page + 1))) one (omega arith) (omega arith) (omega arith)

pub loop-page-init : goal.loop-page-init
loop-page-init g c = record {
  reads = reads_none c.args.disk.now;
  once = once_none refl;
  free = c.requires.free;
  counts = refl;
  decoded = λ bytes gave all long fits are_at. record { each = λ k below. absurd (omega (arith, below)) };
  valid = λ bytes gave. record { each = λ b below. absurd (omega (arith, below)) };
}

pub returns-in_err-load_page-clause-reads : goal.returns-in_err-load_page-clause-reads
returns-in_err-load_page-clause-reads g c = reads_on c.loop-page.invariant.reads c.load_page.ensures.reads

pub loop-page-preserved : goal.loop-page-preserved
loop-page-preserved g c =
    let inv = c.loop-page.invariant in
    let gave_before = λ (bytes : ℕ → ℕ). gave_first {bytes = bytes} inv.reads c.load_page.ensures.reads in
    let gave_now = λ (bytes : ℕ → ℕ). gave_rest {bytes = bytes} inv.reads c.load_page.ensures.reads in
    record {
      reads = reads_on inv.reads c.load_page.ensures.reads;
      once = read_page c.args.layout.now c.loop-page.page inv.once c.load_page.ensures.once;
      free = c.in_ok-load_page.ensures.after;
      counts = no_failure c.load_page.ensures.counts (ok_no_fault _ _ c.in_ok-load_page.was) ∙ inv.counts;
      decoded =
          λ bytes gave all long fits are_at. c.in_ok-load_page.ensures.decoded bytes (gave_now bytes gave) all
          (search rules) fits are_at (inv.decoded bytes (gave_before bytes gave) all long fits are_at);
      valid =
          λ bytes gave. c.in_ok-load_page.ensures.valid bytes (gave_now bytes gave)
          (inv.valid bytes (gave_before bytes gave));
    }

pub returns-in_err-load_page-clause-once : goal.returns-in_err-load_page-clause-once
returns-in_err-load_page-clause-once g c =
    let n = c.args.layout.now in
    let page = c.loop-page.page in
    between_more (row_place n 0) (row_place n (ROWS * (page + 1)))
    (read_page n page c.loop-page.invariant.once c.load_page.ensures.once) (row_place n 0)
    (row_place n (ROWS * (journal_pages n - 257))) (omega arith)
    (omega (arith, c.loop-page-test.true, c.row_pages-page-end.ensures.pages))

pub returns-clause-once : goal.returns-clause-once
returns-clause-once g c =
    let n = c.args.layout.now in
    between_more (row_place n 0) (row_place n (ROWS * c.loop-page.page)) c.loop-page.invariant.once (row_place n 0)
    (row_place n (ROWS * (journal_pages n - 257))) (omega arith) (omega (arith, c.row_pages-page-end.ensures.pages))
