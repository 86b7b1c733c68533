use Rattle.std.proofs.Common.{◌+◌, ◌<◌, ◌-◌, length, take, drop, arith}
use Rattle.enc_unicode.proofs.CutChars.{one_cut, rest_length}
use Rattle.enc_unicode.proofs.cuts.cut_len.Goals as goal

pub returns-then-len-bytes-clause-cut : goal.returns-then-len-bytes-clause-cut
returns-then-len-bytes-clause-cut c =
    let bytes = c.args.bytes.now in
    let needed = c.needed_after-needed.result in
    let trails = c.trail_len-len.result in
    let less : trails < needed = omega (arith, c.if-len-needed.true) in
    let inside : 1 + trails < length bytes = c.if-len-bytes.true in
    let below : trails < length (take (length bytes - 1) (drop 1 bytes)) = rest_length bytes trails inside in
    let cut = one_cut bytes needed trails (c.needed_after-needed.ensures (omega (arith, less))) less inside
    c.trail_len-len.ensures.trails (c.trail_len-len.ensures.end less below) in
    λ some. cut
