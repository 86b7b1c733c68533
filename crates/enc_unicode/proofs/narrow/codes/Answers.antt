use Rattle.std.proofs.Common.{◌<◌, ◌∙◌, map, ap}
use Rattle.std.proofs.lemmas.List.{length-map}
use Rattle.std.proofs.lemmas.Simd.{Each1-from_get_or}
use lib.Lanes.{digits_l, number_l}
use Rattle.enc_unicode.specs.Packing.{narrow_word}
use Rattle.enc_unicode.proofs.NarrowWords.{word_digits, words_small}
use Rattle.enc_unicode.proofs.narrow.codes.Goals as goal

pub returns : goal.returns
returns c =
    let units = c.args.units in
    ap (λ ws. digits_l 256 16 (number_l 65536 ws)) c.words.ensures
    ∙ word_digits 8 (map narrow_word units) (length-map units narrow_word ∙ c.fits-units.0)
    (words_small units (Each1-from_get_or (λ x. x < 2048) units 0 (λ i inside. c.requires i 0 inside)))
