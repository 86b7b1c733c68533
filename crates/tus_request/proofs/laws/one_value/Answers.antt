use Rattle.std.proofs.Common.{refl, ap}
use Rattle.base64.specs.Engines.{standard}
use Rattle.base64.proofs.EngineFacts.{decode_of-encode_of}
use Rattle.tus_request.specs.Value.{answered}
use Rattle.tus_request.proofs.laws.one_value.Goals as goal

pub returns : goal.returns
returns c = λ bytes is. rw is.1 (ap answered (decode_of-encode_of standard bytes refl is.0))
