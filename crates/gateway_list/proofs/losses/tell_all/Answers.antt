use Rattle.std.proofs.Common.{◌∙◌}
use Rattle.gateway_outside.specs.Counted.{unfailed}
use Rattle.gateway_texts.specs.Pieces.{quiet_both}
use Rattle.gateway_list.proofs.Opened.{more_reads}
use Rattle.gateway_list.proofs.losses.tell_all.Goals as goal

pub loop-preserved : goal.loop-preserved
loop-preserved g c =
    let is = c.loop.invariant in
    let one = c.in_ok-losses.ensures in
    record {
      unfailed = unfailed _ _ _ (λ f. absurd (cc)) one.counts ∙ is.unfailed;
      quiet = quiet_both _ _ _ _ _ _ is.quiet one.crash;
      represents = λ sure w represents. one.represents sure w (is.represents sure w represents);
      reads = more_reads is.reads one.reads;
    }

pub returns-in_err-losses-clause-reads : goal.returns-in_err-losses-clause-reads
returns-in_err-losses-clause-reads g c = more_reads c.loop.invariant.reads c.in_err-losses.ensures.reads
