use Rattle.std.proofs.Common.{Ok, [], length}
use denote.Shadow.{shadow}
use denote.Text.{Utf8}
use Rattle.enc_model.specs.Indexes.{tables}
use Rattle.enc_encode.specs.State.{code_from}
use Rattle.enc_encode.specs.Held.{HeldPrefix}
use Rattle.enc_encode.proofs.encoder.Encoder.encode_chars.Given as goal

abbrev pub invariant-loop-rest : goal.invariant-loop-rest
invariant-loop-rest g l = shadow (Utf8 l.rest)
    × HeldPrefix (code_from (tables l.set) l.fn.self) l.run l.rest l.fn.out [] l.out l.held (Ok l.shift)

abbrev pub decreases-loop-rest : goal.decreases-loop-rest
decreases-loop-rest g l = length l.rest
