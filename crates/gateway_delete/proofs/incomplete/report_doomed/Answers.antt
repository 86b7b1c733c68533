use Rattle.std.proofs.Common.{◌∙◌, [], ap, flat_map, take}
use Rattle.std.proofs.lemmas.List.{take_all}
use Rattle.gateway_outside.specs.Counted.{unfailed}
use Rattle.gateway_outside.specs.Writing.{appends_is, wrote_item}
use Rattle.gateway_delete.specs.Deleting.{doomed_line}
use Rattle.gateway_delete.proofs.incomplete.report_doomed.Goals as goal

pub loop-number-preserved : goal.loop-number-preserved
loop-number-preserved g c = (
  unfailed _ _ _ (λ f. absurd (cc)) c.in_ok-writeln.ensures.counts ∙ c.loop-number.invariant.0,
  wrote_item doomed_line [] c.args.numbers.now c.loop-number.number-index 0
      (g.W.Output.contents c.args.writer.now) (g.W.Output.contents c.loop-number.writer)
      (g.W.Output.contents c.writeln.new.self) c.loop-number-test.true c.loop-number.invariant.1
      c.in_ok-writeln.ensures.bytes,
)

pub returns-clause-lines : goal.returns-clause-lines
returns-clause-lines g c =
    rw (take_all c.loop-number.number-index c.args.numbers.now c.loop-number-test.false) at c.loop-number.invariant.1
