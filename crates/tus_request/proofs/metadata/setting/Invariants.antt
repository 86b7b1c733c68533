use Rattle.std.proofs.Common.{◌≡◌, drop, map}
use Rattle.tus_request.specs.Metadata.{setting}
use Rattle.tus_request.specs.Pairs.{pair_shown}
use Rattle.tus_request.proofs.metadata.setting.Given as goal

abbrev pub invariant-loop-pair : goal.invariant-loop-pair
invariant-loop-pair l = setting l.key l.other (map pair_shown (drop l.pair-index l.pairs)) ≡ setting l.key l.other
    (map pair_shown l.pairs)
