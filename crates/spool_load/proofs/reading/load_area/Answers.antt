use Rattle.std.proofs.Common.{◌≡◌, ◌∙◌, ◌+◌, ◌*◌, ℕ, List, length, refl, rules, arith}
use Rattle.common.specs.declared.given.GivenRead.{GivenRead}
use Rattle.spool_disk.specs.Given.{Between, ReadsOnce}
use Rattle.spool_disk.proofs.Gave.{between_more, between_on, once_none}
use Rattle.spool_journal.specs.declared.TheConstants.{PAGE}
use Rattle.spool_pages.specs.View.{index_place, state_place}
use Rattle.spool_journal.proofs.Steps.{no_failure}
use Rattle.spool_load.proofs.Looks.{gave_first, gave_rest, ok_no_fault, reads_none, reads_on}
use Rattle.spool_load.proofs.reading.load_area.Goals as goal

-- the pages before, and one more
pushed_page : (at page : ℕ) {a b c : List GivenRead} → ReadsOnce (Between at (at + PAGE * page)) a b
    → ReadsOnce (Between (at + PAGE * page) (at + PAGE * (page + 1))) b c
    → ReadsOnce (Between at (at + PAGE * (page + 1))) a c
pushed_page at page before one =
    between_on at (at + PAGE * page) before (at + PAGE * page) (at + PAGE * (page + 1)) one (omega arith) (omega arith)
    (omega arith)

pub loop-page-init : goal.loop-page-init
loop-page-init g c =
    let empty : length c.new-area.result.items ≡ 0 = search rules in
    record {
      reads = reads_none c.args.disk.now;
      once = once_none refl;
      counts = refl;
      long = empty;
      read = λ bytes gave. record { each = λ i below. absurd (omega (arith, below, empty)) };
    }

pub returns-in_err-push_area_page-clause-reads : goal.returns-in_err-push_area_page-clause-reads
returns-in_err-push_area_page-clause-reads g c = reads_on c.loop-page.invariant.reads c.push_area_page.ensures.reads

pub loop-page-preserved : goal.loop-page-preserved
loop-page-preserved g c =
    let inv = c.loop-page.invariant in
    record {
      reads = reads_on inv.reads c.push_area_page.ensures.reads;
      once = pushed_page (index_place c.args.layout.now) c.loop-page.page inv.once c.push_area_page.ensures.once;
      counts = no_failure c.push_area_page.ensures.counts (ok_no_fault _ _ c.in_ok-push_area_page.was) ∙ inv.counts;
      long = omega (arith, c.in_ok-push_area_page.ensures.others, inv.long);
      read =
          λ bytes gave. c.in_ok-push_area_page.ensures.pushed bytes
          (gave_rest inv.reads c.push_area_page.ensures.reads gave)
          (inv.read bytes (gave_first inv.reads c.push_area_page.ensures.reads gave)) inv.long;
    }

pub returns-in_err-push_area_page-clause-once : goal.returns-in_err-push_area_page-clause-once
returns-in_err-push_area_page-clause-once g c =
    let at : ℕ = index_place c.args.layout.now in
    between_more at (at + PAGE * (c.loop-page.page + 1))
    (pushed_page at c.loop-page.page c.loop-page.invariant.once c.push_area_page.ensures.once) at
    (state_place c.args.layout.now) (omega arith) (omega (arith, c.loop-page-test.true))

pub returns-clause-once : goal.returns-clause-once
returns-clause-once g c =
    let at : ℕ = index_place c.args.layout.now in
    between_more at (at + PAGE * c.loop-page.page) c.loop-page.invariant.once at (state_place c.args.layout.now)
    (omega arith) (omega arith)
