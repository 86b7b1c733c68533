-- The handler of the single-byte decoders is calm.
use Rattle.std.proofs.Common.{ℕ, ◌≤◌, Some, length, lit≤}
use Rattle.enc_model.specs.declared.Encoding.{Encoding}
use Rattle.enc_model.specs.Encode.{Tables}
use Rattle.enc_model.specs.Stream.{IsQuiet, EndsWithin, IsCalm}
use Rattle.enc_legacy.specs.Singles.{single_in}

-- A byte restores at most two bytes.
few : (t : Tables) (s : Encoding) (b : ℕ) → length (single_in t s (Some b)).restored ≤ 2
unfolding single_in
few t s b = lit≤ tt

-- The restored bytes restore nothing.
quiet : (t : Tables) (s : Encoding) (b : ℕ) → IsQuiet (single_in t) (single_in t s (Some b)).state
    (single_in t s (Some b)).restored
unfolding single_in
quiet t s b = tt

-- The end is finished within four answers.
ends : (t : Tables) (s : Encoding) → EndsWithin 4 (single_in t) s
unfolding single_in
ends t s = tt

-- The handler is calm.
pub single_in_calm : (t : Tables) → IsCalm (single_in t)
single_in_calm t = record { few = few t; quiet = quiet t; ends = ends t }
