use Rattle.std.proofs.Common.{w8}
use Rattle.std.proofs.lemmas.Simd.{below_from_Fits}
use Rattle.enc_encode.proofs.Lanes.{codes_are}
use Rattle.enc_encode.proofs.letters.codes.Goals as goal

pub returns : goal.returns
returns c = codes_are c.args.lanes c.fits-lanes.0 (below_from_Fits w8 c.args.lanes c.fits-lanes.1)
