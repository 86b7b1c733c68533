use Rattle.std.proofs.Common.{arith, subst}
use Rattle.std.specs.Array.{IsFirstChunk}
use Rattle.enc_encode.specs.State.{shift_of}
use Rattle.enc_encode.proofs.Prefixes.{own_chunk}
use Rattle.enc_encode.proofs.ascii_start.own_prefix.Goals as goal

pub returns : goal.returns
returns c =
    let some = c.if-count-eq0.false in
    own_chunk c.args.to (shift_of c.args.shift) c.args.text.now c.in_ok-lanes.lanes.now c.own_lanes-count.result
    (subst (λ z. IsFirstChunk z c.in_ok-lanes.lanes.now 32) c.as_bytes.ensures.value c.in_ok-lanes.ensures.cases)
    c.own_lanes-count.ensures (omega (arith, some))
