use Rattle.std.proofs.Common.{refl, rules, ◌∙◌, ◌*◌, inl, inr, arith}
use Rattle.spool_disk.proofs.Firm.{lasts_call, lasts_on, not_err, no_calls, one_call}
use Rattle.spool_journal.proofs.Steps.{no_failure}
use Rattle.std.proofs.lemmas.Bool.{cases_lt}
use Rattle.spool_journal.specs.declared.TheConstants.{PAGE}
use Rattle.spool_pages.specs.View.{state_place}
use Rattle.spool_image.specs.Format.{PrefixStays}
use Rattle.spool_image.proofs.Formats.{prefix_image, prefix_unchanged, prefix_on, prefix_written, lasts_none}
use Rattle.spool_image.proofs.Fresh.{fresh_more}
use Rattle.spool_pages.proofs.Encodes.{all_is}
use Rattle.spool_image.proofs.formatting.write_pages.Goals as goal

pub loop-page-init : goal.loop-page-init
loop-page-init g c =
    let disk = c.args.disk.now in
    record {
      calls = no_calls;
      fresh = λ honest. record { each = λ p from below. omega (arith, from, below) };
      prefix = λ honest. prefix_unchanged (g.D.Disk.current disk) (g.D.Disk.unsynced disk);
      crash = λ honest. lasts_none g.D.Disk disk (PrefixStays (g.D.Disk.current disk) (g.D.Disk.unsynced disk));
      valid = λ past. absurd (omega (arith, past));
    }

pub loop-page-preserved : goal.loop-page-preserved
loop-page-preserved g c =
    let inv = c.loop-page.invariant in
    record {
      calls = one_call inv.calls c.write_at.ensures.size c.write_at.ensures.honest
          (no_failure c.write_at.ensures.counts (not_err _ _ c.in_ok-write_at.was));
      fresh = λ honest. fresh_more _ _ _ _ (inv.fresh honest)
          (c.in_ok-write_at.ensures.writes (inv.calls.honest honest))
          (search rules) (search rules) c.fresh_page.ensures.bytes;
      prefix = λ honest.
          prefix_on (inv.prefix honest) (prefix_written (omega arith)
          (c.write_at.ensures.writes (inv.calls.honest honest)));
      crash = λ honest.
          let writes = c.write_at.ensures.writes (inv.calls.honest honest) in
          let preserves = prefix_on (inv.prefix honest) (prefix_written (omega arith) writes) in
          lasts_on (inv.crash honest) (lasts_call (c.write_at.ensures.time (inv.calls.honest honest))
          (prefix_image preserves));
      valid = λ past. elim (cases_lt (PAGE * c.loop-page.page) (state_place c.args.layout.now)) [
        | inl before ↦ c.fresh_page.ensures.valid (omega (arith, past)) before
        | inr after ↦ inv.valid after
      ];
    }

pub returns-clause-valid : goal.returns-clause-valid
returns-clause-valid g c = c.loop-page.invariant.valid (omega (arith, all_is c.args.layout.now))
