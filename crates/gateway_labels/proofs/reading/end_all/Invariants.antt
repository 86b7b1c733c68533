use Rattle.std.proofs.Common.{◌≡◌, ℕ, List, map}
use Rattle.std.specs.List.{All}
use Rattle.enc_model.specs.Indexes.{tables}
use Rattle.gateway_labels.specs.Trials.{IsChoiceOf, IsTrialOf, tried}
use Rattle.gateway_labels.proofs.reading.end_all.Given as goal

abbrev pub invariant-loop-trial : goal.invariant-loop-trial
invariant-loop-trial l = record {
  same : map (λ choice. choice.encoding) l.choices.items ≡ map tried l.yielded;
  choices : (input : List ℕ) → All (λ trial. IsTrialOf (tables l.set) trial input) l.fn.trials.items
      → All (λ choice. IsChoiceOf (tables l.set) choice input l.is_whole) l.choices.items;
}
