use Rattle.std.proofs.Common.{sym, arith}
use Rattle.std.proofs.lemmas.List.{length-take-le}
use Rattle.enc_unicode.proofs.well_formed.text_before_guess.Goals as goal

pub slice_bounds-seeming_end-end : goal.slice_bounds-seeming_end-end
slice_bounds-seeming_end-end c =
    sym (length-take-le 1024 c.args.bytes.now (omega (arith, c.if-bytes-gt-GUESSED.true)))

pub seeming_end-end-requires : goal.seeming_end-end-requires
seeming_end-end-requires c =
    let window = length-take-le 1024 c.args.bytes.now (omega (arith, c.if-bytes-gt-GUESSED.true)) in
    omega (arith, window)
