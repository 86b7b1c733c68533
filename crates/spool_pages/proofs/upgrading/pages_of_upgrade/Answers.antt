use Rattle.std.proofs.Common.{◌≡◌, ◌+◌, length, refl, ◌∙◌, ap, arith}
use Rattle.spool_journal.specs.declared.TheConstants.{PAGE}
use Rattle.spool_journal.specs.Image.{journal_pages}
use Rattle.spool_journal.proofs.Puts.{put_area, put_length}
use Rattle.spool_pages.specs.Changes.{state_number}
use Rattle.spool_pages.proofs.PageIn.{in_none, in_put, in_put_else, number_none}
use Rattle.spool_pages.proofs.RecordBytes.{padded_at}
use Rattle.spool_pages.proofs.Upgraded.{slots_more, upgraded_changes}
use Rattle.spool_pages.proofs.upgrading.pages_of_upgrade.Goals as goal

pub put-requires-in-loop-pair : goal.put-requires-in-loop-pair
put-requires-in-loop-pair c k lt e =
    number_none c.record_number.result c.loop-pair.pages
    (c.loop-pair.invariant.none c.record_number.result (omega (arith, c.record_number.ensures.number))) k lt e

pub loop-pair-init : goal.loop-pair-init
loop-pair-init c =
    let put = c.in_ok-put.ensures.put in
    let empty = c.new-pages.ensures in
    record {
      area = put_area put
          (λ k lt. absurd (let no : length c.new-pages.result ≡ 0 = ap length empty in omega (arith, lt, no)))
          c.state_number.ensures.inside;
      count = let no : length c.new-pages.result ≡ 0 = ap length empty in omega (arith, put_length put, no);
      state = refl;
      encodes = λ s lt. absurd (omega (arith, lt));
      none = λ q from. in_put_else put q (λ e. omega (arith, e, from, c.state_number.ensures.number))
          ∙ in_none q c.new-pages.result empty;
    }

pub loop-pair-preserved : goal.loop-pair-preserved
loop-pair-preserved c =
    let inv = c.loop-pair.invariant in
    let n = c.args.layout.now in
    let put = c.in_ok-put-2.ensures.put in
    let here : c.record_number.result ≡ 26 + journal_pages n + c.loop-pair.pair =
    omega (arith, c.record_number.ensures.number) in
    let none = inv.none c.record_number.result (omega (arith, here)) in
    record {
      area = put_area put inv.area c.record_number.ensures.inside;
      count = omega (arith, put_length put, inv.count);
      state = in_put_else put (state_number n) (λ e. omega (arith, e, here)) ∙ inv.state;
      encodes = slots_more n c.loop-pair.pair c.args.slots.now put here inv.encodes none c.pair_page.ensures.first
          c.pair_page.ensures.second;
      none = λ q from. in_put_else put q (λ e. omega (arith, e, here, from)) ∙ inv.none q (omega (arith, from));
    }

pub returns-clause-changes : goal.returns-clause-changes
returns-clause-changes c v size next slots =
    let inv = c.loop-pair.invariant in
    let n = c.args.layout.now in
    upgraded_changes n c.loop-pair.pages c.args.slots.now c.args.next c.state_page.result
    (inv.state ∙ rw c.state_number.ensures.number at (in_put c.in_ok-put.ensures.put
    (in_none c.state_number.result c.new-pages.result c.new-pages.ensures)))
    (padded_at PAGE c.state_page.ensures)
    (λ s lt. inv.encodes s (omega (arith, lt, c.loop-pair-test.false)))
    (λ q from. inv.none q (omega (arith, from, c.loop-pair.auto.pair-end))) v size next slots
