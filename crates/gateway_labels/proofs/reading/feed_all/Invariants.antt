use Rattle.std.proofs.Common.{◌≡◌, ◌++◌, ℕ, List, map}
use Rattle.std.specs.List.{All}
use Rattle.enc_model.specs.Indexes.{tables}
use Rattle.gateway_labels.specs.Trials.{IsTrialOf, tried}
use Rattle.gateway_labels.proofs.Fed.{AreFed}
use Rattle.gateway_labels.proofs.reading.feed_all.Given as goal

abbrev pub invariant-loop-trial : goal.invariant-loop-trial
invariant-loop-trial l = record {
  same : map tried l.trial-items ≡ map tried l.fn.trials.items;
  fed : (input : List ℕ) → All (λ trial. IsTrialOf (tables l.set) trial input) l.fn.trials.items
      → AreFed (λ trial. IsTrialOf (tables l.set) trial (input ++ l.piece))
      (λ trial. IsTrialOf (tables l.set) trial input) l.trial-items l.trial-index;
}
