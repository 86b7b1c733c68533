use Rattle.std.proofs.Common.{take, Ok}
use Rattle.enc_model.specs.Encode.{Tables}
use Rattle.enc_encode.specs.State.{code_from}
use Rattle.enc_encode.specs.Reasons.{Gave}
use Rattle.enc_encode.proofs.encoder.Encoder.encode_each.Given as goal

abbrev pub invariant-loop-byte : goal.invariant-loop-byte
invariant-loop-byte l = (t : Tables) → Gave (code_from t l.fn.self (take l.byte-index l.run)) l.fn.out l.out
    (Ok l.shift)
