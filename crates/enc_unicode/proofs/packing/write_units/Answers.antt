use Rattle.std.proofs.Common.{w16}
use Rattle.std.proofs.lemmas.Simd.{below_from_Fits}
use Rattle.enc_unicode.proofs.Spans.{wrote_codes}
use Rattle.enc_unicode.proofs.packing.write_units.Goals as goal

pub returns-clause-wrote : goal.returns-clause-wrote
returns-clause-wrote c =
    wrote_codes c.args.units _ _ c.fits-units.0 (below_from_Fits w16 c.args.units c.fits-units.1) c.requires.scalars
    c.requires.utf8 c.write_fours.ensures.code
