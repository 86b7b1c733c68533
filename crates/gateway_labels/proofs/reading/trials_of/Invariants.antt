use Rattle.std.proofs.Common.{◌≡◌, [], map, take}
use Rattle.std.specs.List.{All, filter}
use Rattle.enc_model.specs.Encode.{Tables}
use Rattle.enc_model.specs.Indexes.{offers}
use Rattle.gateway_labels.specs.Trials.{IsTrialOf, tried}
use Rattle.gateway_labels.proofs.reading.trials_of.Given as goal

abbrev pub invariant-loop-encoding : goal.invariant-loop-encoding
invariant-loop-encoding l = record {
  trials : (t : Tables) → All (λ trial. IsTrialOf t trial []) l.trials.items;
  offered : map tried l.trials.items ≡ filter (offers l.set) (take l.encoding-index l.encodings);
}
