use Rattle.std.proofs.Common.{◌≡◌, ◌+◌, ◌++◌, map, length, take, ap, ◌∙◌, arith}
use Rattle.std.proofs.lemmas.List.{length-map, map-id}
use Rattle.std.proofs.lemmas.Simd.{take_more_put_chunk}
use Rattle.enc_unicode.proofs.Spans.{wrote_low}
use Rattle.enc_unicode.proofs.runs.write_ascii.Goals as goal

pub returns : goal.returns
returns c =
    let units = c.args.units in
    let code = c.args.code.now in
    let prefix = take c.args.from code in
    let long : length (map (λ x. x) units) ≡ 32 = length-map units (λ x. x) ∙ c.fits-units.0 in
    wrote_low units prefix _ c.fits-units.0 c.requires.below c.requires.utf8
    (take_more_put_chunk c.args.from code (map (λ x. x) units) (c.args.from + 32) (omega (arith, long)) c.requires.room
    ∙ ap (λ z. prefix ++ z) (map-id units))
