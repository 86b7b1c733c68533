use Rattle.std.proofs.Common.{◌≤◌, ◌-◌, ◌≡◌, [], map}
use Rattle.std.specs.List.{All}
use Rattle.enc_model.specs.Indexes.{tables}
use Rattle.gateway_labels.specs.Labels.{HaveRead}
use Rattle.gateway_labels.specs.Trials.{IsTrialOf, tried}
use Rattle.gateway_labels.proofs.reading.read_all.Given as goal

abbrev pub invariant-loop-bytes : goal.invariant-loop-bytes
invariant-loop-bytes g l = record {
  most : l.bytes ≤ l.most;
  same : map tried l.trials.items ≡ map tried l.fn.trials.items;
  have : All (λ trial. IsTrialOf (tables l.set) trial []) l.fn.trials.items
      → HaveRead (tables l.set) l.trials.items (g.I.Input.remaining l.fn.input) (g.I.Input.remaining l.input) l.bytes;
  unrefused : g.I.Input.refusals l.input ≡ g.I.Input.refusals l.fn.input;
}

abbrev pub decreases-loop-bytes : goal.decreases-loop-bytes
decreases-loop-bytes g l = l.most - l.bytes
