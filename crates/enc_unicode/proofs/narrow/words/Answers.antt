use Rattle.std.proofs.Common.{◌<◌}
use Rattle.std.proofs.lemmas.Simd.{Each1-from_get_or}
use Rattle.enc_unicode.proofs.NarrowWords.{words_are, twos}
use Rattle.enc_unicode.proofs.narrow.words.Goals as goal

pub returns : goal.returns
returns c =
    let v = c.args.units in
    words_are v c.fits-units.0 (twos v c.fits-units.0)
    (Each1-from_get_or (λ x. x < 2048) v 0 (λ i inside. c.requires i 0 inside))
