use Rattle.std.proofs.Common.{◌≡◌, ◌<◌, ◌∙◌, map, length, ap, sym, subst, w16}
use Rattle.std.proofs.lemmas.Simd.{below_from_Fits}
use lib.Lanes.{Each1}
use Rattle.enc_unicode.specs.Packing.{utf8_word}
use Rattle.enc_unicode.proofs.Words.{words_are, twos, threes}
use Rattle.enc_unicode.proofs.packing.words.Goals as goal

pub returns : goal.returns
returns c =
    let v = c.widened-units.result in
    let is = c.widened-units.ensures in
    let long : length v ≡ 4 = ap length is ∙ c.fits-units.0 in
    let small = subst (λ z. Each1 (λ x. x < 65536) z) (sym is) (below_from_Fits w16 c.args.units c.fits-units.1) in
    words_are v long (twos v long) (threes v long) small ∙ ap (map utf8_word) is
