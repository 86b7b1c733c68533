use Rattle.std.proofs.Common.{sym, arith}
use Rattle.std.proofs.lemmas.List.{length-take-le}
use Rattle.enc_unicode.proofs.well_formed.block_len.Goals as goal

pub slice_bounds-whole-end : goal.slice_bounds-whole-end
slice_bounds-whole-end c = sym (length-take-le 256 c.args.bytes.now (omega (arith, c.if-bytes-le-BLOCK.false)))

pub returns-else-len-eq0-clause-some : goal.returns-else-len-eq0-clause-some
returns-else-len-eq0-clause-some c =
    let block = length-take-le 256 c.args.bytes.now (omega (arith, c.if-bytes-le-BLOCK.false)) in
    (omega (arith, c.if-len-eq0.false), omega (arith, c.whole-len.ensures, block, c.if-bytes-le-BLOCK.false))

pub returns-else-len-eq0-clause-few : goal.returns-else-len-eq0-clause-few
returns-else-len-eq0-clause-few c =
    let block = length-take-le 256 c.args.bytes.now (omega (arith, c.if-bytes-le-BLOCK.false)) in
    omega (arith, c.whole-len.ensures, block)
