use Rattle.std.proofs.Common.{◌∙◌, map, ap, w16}
use Rattle.std.proofs.lemmas.List.{length-map}
use Rattle.std.proofs.lemmas.Simd.{below_from_Fits}
use lib.Lanes.{digits_l, number_l}
use Rattle.enc_unicode.specs.Packing.{utf8_word}
use Rattle.enc_unicode.proofs.Words.{word_digits, words_small}
use Rattle.enc_unicode.proofs.packing.codes.Goals as goal

pub returns : goal.returns
returns c =
    let units = c.args.units in
    ap (λ ws. digits_l 256 16 (number_l 4294967296 ws)) c.words.ensures
    ∙ word_digits 4 (map utf8_word units) (length-map units utf8_word ∙ c.fits-units.0)
    (words_small units (below_from_Fits w16 units c.fits-units.1))
