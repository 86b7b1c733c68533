use Rattle.std.proofs.Common.{[], inl, refl}
use Rattle.gateway_outside.specs.Held.{leaves_same}
use Rattle.gateway_up.proofs.Files.{ended_at, stopped_at}
use Rattle.gateway_up.proofs.openly.up_in.Goals as goal

pub returns-in-Err : goal.returns-in-Err
returns-in-Err g c = record {
  serves = λ disks d held is.
      leaves_same (g.F.SpoolFiles.holds c.open_in.new.files) disks c.args.upkeep.spool.now d _ is
      (c.in-Err.ensures.failed disks held)
      (inl (record { same = refl; why = c.in-Err.ensures.noted }, (refl, refl, refl, refl)));
}

pub returns-in-Ok-up_disk : goal.returns-in-Ok-up_disk
returns-in-Ok-up_disk g c = record {
  serves = λ disks d held is.
      let opened = c.in-Ok.ensures.opened disks held in
      ended_at g.F.File.Disk _ _ _ _ _ _ _ _ _ _ _ _ _ (g.F.SpoolFiles.holds c.close.new.self) [] []
      c.args.upkeep.spool.now disks c.in-Ok.disk d c.in-Ok-up_disk.disk opened.0 is (c.close.ensures.closed _ opened.1)
      c.in-Ok-up_disk.ensures;
}

pub returns-in-Err-up_disk : goal.returns-in-Err-up_disk
returns-in-Err-up_disk g c = record {
  serves = λ disks d held is.
      let opened = c.in-Ok.ensures.opened disks held in
      stopped_at g.F.File.Disk _ _ _ _ _ _ _ _ _ _ _ _ _ (g.F.SpoolFiles.holds c.stopped_in.new.files)
      (g.F.SpoolFiles.unopened c.args.files.now) (g.F.SpoolFiles.unopened c.stopped_in.new.files)
      c.args.upkeep.spool.now disks c.in-Ok.disk d c.in-Err-up_disk.disk c.in-Err-up_disk.stopped
      c.stopped_in.result opened.0 is (c.stopped_in.ensures.left _ opened.1) c.in-Err-up_disk.ensures
      c.stopped_in.ensures.fault;
}
