use Rattle.std.proofs.Common.{subst, sym}
use Rattle.enc_model.specs.declared.Encoding.{Encoding}
use Rattle.enc_model.specs.Indexes.{tables}
use Rattle.gateway_labels.specs.Trials.{IsChoiceOf, text_as, tried}
use Rattle.gateway_labels.proofs.trial.Trial.end.Goals as goal

pub returns-clause-text : goal.returns-clause-text
returns-clause-text c input is =
    let t = tables c.args.set.now in
    let known = c.in_ok-counts.ensures.known input is in
    let text = text_as t (tried c.args.self) input c.args.is_whole in
    subst (λ (e : Encoding). IsChoiceOf t
    (record {
      encoding = e;
      lost = c.in_ok-counts.field-0.counts.lost;
      strangeness = c.in_ok-counts.field-0.counts.strangeness;
      digest = c.finalize.result;
      line = c.into_line.result;
    }) input c.args.is_whole)
    (sym c.from-encoding.ensures)
    (record {
      lost = known.counts.lost;
      strangeness = known.counts.strangeness;
      digest = c.finalize.ensures text known.digest;
    })
