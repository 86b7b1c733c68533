use Rattle.std.proofs.Common.{arith, ◌-◌, ◌*◌, inl, take, drop, refl}
use Rattle.spool_journal.specs.declared.TheConstants.{PAGE}
use Rattle.spool_disk.proofs.Firm.{lasts_on, lasts_more, no_calls, one_call}
use Rattle.spool_journal.specs.Image.{text_page}
use Rattle.spool_journal.proofs.Steps.{no_failure}
use Rattle.spool_texts.proofs.Prefixes.{writes_none}
use Rattle.spool_texts.proofs.Lasts.{none_yet, one_more, writes_prefix, but_prefix}
use Rattle.spool_texts.proofs.last_blocks.write_last.Goals as goal

pub loop-at-init : goal.loop-at-init
loop-at-init g c = record {
  calls = no_calls;
  text = λ honest. none_yet (g.D.Disk.current c.args.disk.now) (text_page c.args.layout.now)
      c.saturating_sub-full.result c.args.list.now c.args.last.now (omega (arith, c.saturating_sub-full.ensures));
  writes = λ honest. writes_none _ _;
  lasts = λ honest. record { later = omega arith; nothing_else = λ t image le left. inl left };
}

pub returns-in_err-write_prefix-clause-writes : goal.returns-in_err-write_prefix-clause-writes
returns-in_err-write_prefix-clause-writes g c honest =
    let inv = c.loop-at.invariant in
    writes_prefix _ (inv.writes honest) (c.write_prefix.ensures.writes (inv.calls.honest honest))

pub returns-in_err-write_prefix-clause-lasts : goal.returns-in_err-write_prefix-clause-lasts
returns-in_err-write_prefix-clause-lasts g c honest =
    let inv = c.loop-at.invariant in
    lasts_on (inv.lasts honest)
    (lasts_more (c.write_prefix.ensures.lasts (inv.calls.honest honest))
    (λ image is. but_prefix _ (inv.writes honest) is))

pub loop-at-preserved : goal.loop-at-preserved
loop-at-preserved g c =
    let inv = c.loop-at.invariant in
    let at = c.loop-at.at in
    let full = c.saturating_sub-full.result in
    record {
      calls = one_call inv.calls c.write_prefix.ensures.size c.write_prefix.ensures.honest
          (no_failure c.write_prefix.ensures.counts (λ e. let wrong = rw c.in_ok-write_prefix.was at e in cc));
      text = λ honest.
          one_more (g.D.Disk.current c.args.disk.now) (g.D.Disk.current c.loop-at.disk)
          (g.D.Disk.current c.write_prefix.new.disk)
          (text_page c.args.layout.now) full at c.min-to.result c.args.list.now c.args.last.now
          (take (c.min-to.result - PAGE * (at - full)) (drop (PAGE * (at - full)) c.args.last.now))
          (omega (arith, c.loop-at.auto)) (omega (arith, c.loop-at.auto, c.loop-at-test.true))
          (omega (arith, c.loop-at.auto, c.loop-at-test.true, c.saturating_sub-full.ensures, c.div_ceil.ensures))
          c.min-to.ensures refl (inv.text honest) (c.in_ok-write_prefix.ensures.text (inv.calls.honest honest));
      writes = λ honest. writes_prefix _ (inv.writes honest) (c.write_prefix.ensures.writes (inv.calls.honest honest));
      lasts = λ honest. lasts_on (inv.lasts honest)
          (lasts_more (c.write_prefix.ensures.lasts (inv.calls.honest honest))
          (λ image is. but_prefix _ (inv.writes honest) is));
    }
