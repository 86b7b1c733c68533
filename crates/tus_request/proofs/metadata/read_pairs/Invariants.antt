use Rattle.std.proofs.Common.{◌≡◌, ◌∷◌, [], length, drop, map, Some}
use Rattle.tus_request.specs.Texts.{parts, trimmed}
use Rattle.tus_request.specs.Metadata.{key_values_from}
use Rattle.tus_request.specs.Pairs.{pair_shown}
use Rattle.tus_request.proofs.metadata.read_pairs.Given as goal

abbrev pub invariant-loop-part : goal.invariant-loop-part
invariant-loop-part l =
    key_values_from (Some (map pair_shown l.pairs.items)) (drop (length l.yielded)
    (map (trimmed (32 ∷ [])) (parts l.text)))
    ≡ key_values_from (Some []) (map (trimmed (32 ∷ [])) (parts l.text))
