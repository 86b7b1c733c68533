use Rattle.enc_encode.proofs.Lanes.{bytes_are, bytes_fit}
use Rattle.enc_encode.proofs.letters.bytes_at.Goals as goal

pub overflow_cast-result : goal.overflow_cast-result
overflow_cast-result c = bytes_fit c.args.byte c.args.places c.fits-places.0

pub returns : goal.returns
returns c = bytes_are c.args.byte c.args.places c.fits-places.0
