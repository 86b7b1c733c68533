use Rattle.std.proofs.Common.{◌∙◌, w16}
use Rattle.std.proofs.lemmas.Simd.{below_from_Fits}
use Rattle.enc_unicode.proofs.Spans.{wrote_codes, narrow_scalars}
use Rattle.enc_unicode.proofs.narrow.write_narrow.Goals as goal

pub returns-clause-wrote : goal.returns-clause-wrote
returns-clause-wrote c =
    wrote_codes c.args.units _ _ c.fits-units.0 (below_from_Fits w16 c.args.units c.fits-units.1)
    (narrow_scalars c.args.units c.requires.narrow ∙ c.fits-units.0) c.requires.utf8 c.write_eights.ensures.code
