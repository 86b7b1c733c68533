use Rattle.std.proofs.Common.{◌≡◌, drop, map}
use Rattle.tus_request.specs.Metadata.{has_key}
use Rattle.tus_request.specs.Pairs.{pair_shown}
use Rattle.tus_request.proofs.metadata.has_key.Given as goal

abbrev pub invariant-loop-pair : goal.invariant-loop-pair
invariant-loop-pair l = has_key l.key (map pair_shown (drop l.pair-index l.pairs)) ≡ has_key l.key
    (map pair_shown l.pairs)
