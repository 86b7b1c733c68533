-- Pairs of a key and a value in the code.
use Rattle.std.specs.Prelude.{ℕ, List, map, Option, option_map}
use Rattle.std.specs.declared.vec.Vec.{Vec}
use Rattle.tus_request.specs.Metadata.{KeyValue}
use Rattle.tus_request.specs.Metadata as metadata
use Rattle.tus_request.specs.declared.metadata.Pair.{Pair}
use Rattle.tus_request.specs.declared.metadata.Choice as code

abbrev pub pair_shown : Pair → KeyValue
pair_shown p = (p.key.now, p.value.items)

abbrev pub choice_shown : code.Choice → metadata.Choice
choice_shown c = record { from = c.from; to = c.to; mode = c.mode }

-- The bytes that were found.
abbrev pub bytes_shown : {A : Type 0} → Option (Vec ℕ A) → Option (List ℕ)
bytes_shown = option_map (λ v. v.items)

-- The pairs that were found.
abbrev pub pairs_shown : {A : Type 0} → Option (Vec Pair A) → Option (List KeyValue)
pairs_shown = option_map (λ v. map pair_shown v.items)
