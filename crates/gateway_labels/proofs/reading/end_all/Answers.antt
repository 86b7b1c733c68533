use Rattle.std.proofs.Common.{◌∙◌, ◌++◌, ◌∷◌, [], List, ap, length, map, rules, subst, sym}
use Rattle.std.proofs.lemmas.Iterator.Adapters.{YieldsList-from_vec}
use Rattle.std.proofs.lemmas.Iterator.Consumers.{YieldsList-end, YieldsList-turn}
use Rattle.std.proofs.lemmas.List.Elements.{All-push}
use Rattle.std.proofs.lemmas.List.{map-id, map_push}
use Rattle.std.specs.List.{All}
use Rattle.enc_model.specs.declared.Encoding.{Encoding}
use Rattle.enc_model.specs.Indexes.{tables}
use Rattle.gateway_labels.specs.Trials.{IsChoiceOf, IsTrialOf, tried}
use Rattle.gateway_labels.specs.declared.choice.Choice.{Choice}
use Rattle.gateway_labels.specs.declared.trial.Trial.{Trial}
use Rattle.gateway_labels.proofs.reading.end_all.Goals as goal

pub loop-trial-preserved : goal.loop-trial-preserved
loop-trial-preserved c = record {
  same =
      ap (map (λ (choice : Choice). choice.encoding)) c.in_ok-add_choice.ensures
      ∙ map_push (λ (choice : Choice). choice.encoding) c.loop-trial.choices.items c.in_ok-choice.choice
      ∙ ap (λ (xs : List Encoding). xs ++ c.in_ok-choice.choice.encoding ∷ []) c.loop-trial.invariant.same
      ∙ ap (λ (e : Encoding). map tried c.loop-trial.yielded ++ e ∷ []) c.in_ok-choice.ensures.encoding
      ∙ sym (map_push tried c.loop-trial.yielded c.in-Some.trial);
  choices = λ input all.
      let P : Choice → Type 0 = λ choice. IsChoiceOf (tables c.args.set.now) choice input c.args.is_whole in
      let Q : Trial → Type 0 = λ trial. IsTrialOf (tables c.args.set.now) trial input in
      let given =
      YieldsList-from_vec {s = c.into_iter-trial-iterator.result} c.args.trials.items (search rules) (search rules)
      in
      let turn =
      YieldsList-turn given c.loop-trial.yielded _ c.loop-trial.yielded_by c.next.result c.next.new.self
      c.in-Some.trial c.in-Some.is c.next.ensures.steps in
      let one : Q c.in-Some.trial =
      subst Q (sym turn.1) (all (length c.loop-trial.yielded) c.in-Some.trial turn.0) in
      subst (λ (xs : List Choice). All P xs) (sym c.in_ok-add_choice.ensures)
      (All-push P c.loop-trial.choices.items c.in_ok-choice.choice (c.loop-trial.invariant.choices input all)
      (c.in_ok-choice.ensures.text input one));
}

pub returns-clause-same : goal.returns-clause-same
returns-clause-same c =
    let given =
    YieldsList-from_vec {s = c.into_iter-trial-iterator.result} c.args.trials.items (search rules) (search rules) in
    let end =
    YieldsList-end given c.loop-trial.yielded _ c.loop-trial.yielded_by c.next.result c.next.new.self c.in-None.is
    c.next.ensures.steps in
    c.loop-trial.invariant.same
    ∙ ap (λ (xs : List Trial). map tried xs) (sym (map-id c.loop-trial.yielded) ∙ end.0)
