use Rattle.std.proofs.Common.{◌∙◌, refl, rules}
use Rattle.gateway_outside.specs.Counted.{unfailed}
use Rattle.gateway_texts.specs.Pieces.{quiet_both}
use Rattle.gateway_list.proofs.Opened.{more_reads}
use Rattle.gateway_list.proofs.Written.{so_far_all, so_far_first, so_far_next}
use Rattle.gateway_list.proofs.json_lines.write_uploads.Goals as goal

pub loop-init : goal.loop-init
loop-init g c = record {
  unfailed = refl;
  unrefused = refl;
  quiet = search rules;
  represents = λ sure w represents. represents;
  reads = search rules;
  lines = λ sure w represents order. so_far_first w.store (g.W.Output.contents c.args.writer.now) order;
}

pub loop-preserved : goal.loop-preserved
loop-preserved g c =
    let is = c.loop.invariant in
    let one = c.in_ok-write_line.ensures in
    record {
      unfailed = unfailed _ _ _ (λ f. absurd (cc)) one.counts ∙ is.unfailed;
      unrefused = unfailed _ _ _ (λ f. absurd (cc)) one.io ∙ is.unrefused;
      quiet = quiet_both _ _ _ _ _ _ is.quiet one.crash;
      represents = λ sure w represents. one.represents sure w (is.represents sure w represents);
      reads = more_reads is.reads one.reads;
      lines = λ sure w represents order.
          so_far_next w.store c.loop.number c.record_after.result (g.W.Output.contents c.args.writer.now)
          (g.W.Output.contents c.loop.writer)
          (c.record_after.ensures sure w (is.represents sure w represents)) (is.lines sure w represents order)
          c.in-Some.record (g.W.Output.contents c.write_line.new.writer) _ order c.in-Some.is
          (c.deref.ensures ∙ c.in_ok-head.ensures) one.line;
    }

pub returns-in_default-clause-lines : goal.returns-in_default-clause-lines
returns-in_default-clause-lines g c sure w represents order =
    let is = c.loop.invariant in
    so_far_all w.store c.loop.number c.record_after.result (g.W.Output.contents c.args.writer.now)
    (g.W.Output.contents c.loop.writer) (c.record_after.ensures sure w (is.represents sure w represents))
    (is.lines sure w represents order) c.in_default.is

pub returns-in_err-write_line-clause-reads : goal.returns-in_err-write_line-clause-reads
returns-in_err-write_line-clause-reads g c = more_reads c.loop.invariant.reads c.in_err-write_line.ensures.reads
