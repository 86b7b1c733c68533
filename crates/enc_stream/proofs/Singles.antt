-- The single-byte decoders have one state.
use Rattle.std.proofs.Common.{◌≡◌, refl}
use Rattle.enc_model.specs.Japanese.{Single, SingleState}

pub only_state : (s : Single) → SingleState ≡ s
only_state SingleState = refl
