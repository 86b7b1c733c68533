use Rattle.std.proofs.Common.{◌≡◌, ◌<◌, ◌≤◌, inl, ◌*◌, ◌+◌, ℕ, List, refl, sym, ◌∙◌, arith, subst}
use Rattle.common.specs.declared.given.GivenRead.{GivenRead}
use Rattle.spool_disk.specs.Given.{Between, ReadsOnce}
use Rattle.spool_journal.specs.declared.TheConstants.{PAGE}
use Rattle.spool_disk.proofs.Firm.{lasts_on, no_calls, not_err, one_call}
use Rattle.spool_disk.proofs.Gave.{between_more, between_on, once_none}
use Rattle.spool_journal.proofs.Steps.{no_failure}
use Rattle.spool_journal.proofs.Recovers.{head_count, head_number}
use Rattle.spool_journal.specs.Image.{count}
use Rattle.spool_journal.specs.Phases.{Upto, HeadOf}
use Rattle.spool_journal.proofs.recovery.replay.Goals as goal

pub returns-in_err-copy_page-clause-placing : goal.returns-in_err-copy_page-clause-placing
returns-in_err-copy_page-clause-placing g c honest opened here placing =
    let inv = c.loop-k.invariant in
    let lt : c.loop-k.k < count opened = omega (arith, head_count opened c.args.head.now here) in
    c.copy_page.ensures.placing (inv.calls.honest honest) _ c.loop-k.k opened
    (inv.placing honest opened here placing) lt
    (sym (head_number opened c.args.head.now here c.loop-k.k (omega (arith, lt, placing.form.few, c.requires.few)))
    ∙ sym c.get_word-number.ensures)

pub returns-in_err-copy_page-clause-lasts : goal.returns-in_err-copy_page-clause-lasts
returns-in_err-copy_page-clause-lasts g c honest opened here placing =
    let inv = c.loop-k.invariant in
    let lt : c.loop-k.k < count opened = omega (arith, head_count opened c.args.head.now here) in
    lasts_on (inv.lasts honest opened here placing)
    (c.copy_page.ensures.lasts (inv.calls.honest honest) _ c.loop-k.k c.requires.few opened
    (inv.placing honest opened here placing) lt
    (sym (head_number opened c.args.head.now here c.loop-k.k (omega (arith, lt, placing.form.few, c.requires.few)))
    ∙ sym c.get_word-number.ensures))

-- the pages before, and one more
copied : (k : ℕ) {a b c : List GivenRead} → ReadsOnce (Between 12288 (PAGE * (3 + k))) a b
    → ReadsOnce (Between (PAGE * (3 + k)) (PAGE * (3 + k + 1))) b c
    → ReadsOnce (Between 12288 (PAGE * (3 + (k + 1)))) a c
copied k before one =
    between_more 12288 (PAGE * (3 + k + 1))
    (between_on 12288 (PAGE * (3 + k)) before (PAGE * (3 + k)) (PAGE * (3 + k + 1)) one (omega arith) (omega arith)
    (omega arith))
    12288 (PAGE * (3 + (k + 1))) (omega arith) (omega arith)

pub loop-k-init : goal.loop-k-init
loop-k-init g c = record {
  calls = no_calls;
  reads = once_none refl;
  placing = λ honest opened here placing. placing;
  upto = λ honest opened here placing upto. upto;
  lasts = λ honest opened here placing. record { later = omega arith; nothing_else = λ t image le since. inl since };
}

pub loop-k-preserved : goal.loop-k-preserved
loop-k-preserved g c =
    let inv = c.loop-k.invariant in
    let below : (opened : ℕ → ℕ) → HeadOf opened c.args.head.now → c.loop-k.k < count opened =
    λ opened here. omega (arith, head_count opened c.args.head.now here) in
    record {
      calls = one_call inv.calls c.copy_page.ensures.size c.copy_page.ensures.honest
          (no_failure c.copy_page.ensures.counts (not_err _ _ c.in_ok-copy_page.was));
      reads = copied c.loop-k.k inv.reads c.copy_page.ensures.reads;
      placing = λ honest opened here placing. c.copy_page.ensures.placing (inv.calls.honest honest) _ c.loop-k.k opened
          (inv.placing honest opened here placing) (below opened here)
          (sym (head_number opened c.args.head.now here c.loop-k.k
          (omega (arith, below opened here, placing.form.few, c.requires.few))) ∙ sym c.get_word-number.ensures);
      upto = λ honest opened here placing upto. c.in_ok-copy_page.ensures.upto (inv.calls.honest honest) _ c.loop-k.k
          opened
          (inv.placing honest opened here placing) (inv.upto honest opened here placing upto) (below opened here)
          (sym (head_number opened c.args.head.now here c.loop-k.k
          (omega (arith, below opened here, placing.form.few, c.requires.few))) ∙ sym c.get_word-number.ensures) refl;
      lasts = λ honest opened here placing. lasts_on (inv.lasts honest opened here placing)
          (c.copy_page.ensures.lasts (inv.calls.honest honest) _ c.loop-k.k c.requires.few opened
          (inv.placing honest opened here placing) (below opened here)
          (sym (head_number opened c.args.head.now here c.loop-k.k
          (omega (arith, below opened here, placing.form.few, c.requires.few))) ∙ sym c.get_word-number.ensures));
    }

pub returns-clause-upto : goal.returns-clause-upto
returns-clause-upto g c honest opened here placing upto =
    let e : c.loop-k.k ≡ count opened = omega (arith, head_count opened c.args.head.now here) in
    subst (Upto opened _) e (c.loop-k.invariant.upto honest opened here placing upto)

pub returns-in_err-copy_page-clause-reads : goal.returns-in_err-copy_page-clause-reads
returns-in_err-copy_page-clause-reads g c =
    let few : c.loop-k.k + 1 ≤ c.args.journal = omega (arith, c.requires.form.few, c.get_word-count.ensures) in
    between_more 12288 (PAGE * (3 + (c.loop-k.k + 1)))
    (copied c.loop-k.k c.loop-k.invariant.reads c.copy_page.ensures.reads)
    12288 (PAGE * (3 + c.args.journal)) (omega arith) (omega (arith, few))

pub returns-clause-reads : goal.returns-clause-reads
returns-clause-reads g c =
    let few : c.loop-k.k ≤ c.args.journal = omega (arith, c.requires.form.few, c.get_word-count.ensures) in
    between_more 12288 (PAGE * (3 + c.loop-k.k)) c.loop-k.invariant.reads 12288 (PAGE * (3 + c.args.journal))
    (omega arith) (omega (arith, few))
