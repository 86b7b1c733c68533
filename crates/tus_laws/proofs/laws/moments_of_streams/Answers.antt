use Rattle.tus_laws.proofs.Streams.{body_of_stream, head_of_stream}
use Rattle.tus_laws.proofs.laws.moments_of_streams.Goals as goal

pub returns : goal.returns
returns c = record { body = body_of_stream; head = head_of_stream }
