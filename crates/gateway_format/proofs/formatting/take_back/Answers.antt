use Rattle.gateway_outside.specs.Held.{others_same}
use Rattle.gateway_format.proofs.formatting.take_back.Goals as goal

pub returns-then-not-is_new : goal.returns-then-not-is_new
returns-then-not-is_new g c = record {
  others = λ disks held. others_same (g.F.SpoolFiles.holds c.args.files.now) disks c.args.path.now held;
}
