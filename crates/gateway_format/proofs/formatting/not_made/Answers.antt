use Rattle.std.proofs.Common.{inl, refl}
use Rattle.gateway_outside.specs.Held.{others_same}
use Rattle.gateway_format.proofs.formatting.not_made.Goals as goal

pub returns-in_default : goal.returns-in_default
returns-in_default g c = record {
  others = λ disks held. others_same (g.F.SpoolFiles.holds c.args.files.now) disks c.args.path.now held;
  told = inl (refl, refl);
}

pub returns-then-not-is_full : goal.returns-then-not-is_full
returns-then-not-is_full g c = record {
  others = λ disks held. others_same (g.F.SpoolFiles.holds c.args.files.now) disks c.args.path.now held;
  told = inl (refl, refl);
}
