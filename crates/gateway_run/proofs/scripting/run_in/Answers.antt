use Rattle.std.proofs.Common.{◌≡◌, ◌∙◌, ◌⊎◌, None, Ok, Err, inl, inr, refl}
use Rattle.gateway_outside.specs.Held.{leaves_again, leaves_as, leaves_put, leaves_same, unread}
use Rattle.gateway_outside.specs.Openings.{StaysShut}
use Rattle.gateway_run.specs.Scripts.{RanIn}
use Rattle.gateway_run.proofs.Told.{either_none, refused_told}
use Rattle.gateway_run.proofs.scripting.run_in.Goals as goal

pub returns-in-Err : goal.returns-in-Err
returns-in-Err g c = record {
  runs = λ disks d held is.
      leaves_same (g.F.SpoolFiles.holds c.open_in.new.files) disks c.args.path.now d _ is
      (c.in-Err.ensures.failed disks held)
      (inl (record { same = refl; why = c.in-Err.ensures.noted }, (refl, refl)));
  io = either_none _ _ _ c.in-Err.ensures.never_io;
}

pub returns-in-Ok-run : goal.returns-in-Ok-run
returns-in-Ok-run g c = record {
  runs = λ disks d held is.
      let opened = c.in-Ok.ensures.opened disks held in
      let holds = g.F.SpoolFiles.holds c.close.new.self in
      let disk = g.F.File.Disk in
      let ran = c.in-Ok-run.ensures in
      let input = g.R.CountedRead.remaining c.args.reader.now in
      let before = g.W.CountedWrite.contents c.args.writer.now in
      let after = g.W.CountedWrite.contents c.run.new.writer in
      let none = (c.run.new.reader ≡ c.args.reader.now) × (c.run.new.writer ≡ c.args.writer.now) in
      leaves_as holds disks c.args.path.now c.in-Ok.disk d
      (λ x d'. ⊥ ⊎ RanIn {T = Unit {0}} disk x (Ok (tt {0})) input before after none d') opened.0 is
      (leaves_put holds disks c.args.path.now None _ c.in-Ok-run.disk (c.close.ensures.closed _ opened.1) (inr (record {
        run = Ok c.in-Ok-run.disk;
        runs = record {
          runs = ran.runs;
          writes = ran.writes;
          given = ran.given;
          exact = ran.exact;
          unopened = ran.unopened;
          unwritten = ran.unwritten;
          same = ran.same;
          counts = ran.counts;
        };
        answers = tt {0};
        reads = unread disk c.in-Ok-run.disk;
      })));
  io = c.in-Ok-run.ensures.io;
}

pub returns-in-Err-run : goal.returns-in-Err-run
returns-in-Err-run g c = record {
  runs = λ disks d held is.
      let opened = c.in-Ok.ensures.opened disks held in
      let holds = g.F.SpoolFiles.holds c.refused_in.new.files in
      let disk = g.F.File.Disk in
      let ran = c.in-Err-run.ensures in
      let input = g.R.CountedRead.remaining c.args.reader.now in
      let before = g.W.CountedWrite.contents c.args.writer.now in
      let after = g.W.CountedWrite.contents c.run.new.writer in
      let none = (c.run.new.reader ≡ c.args.reader.now) × (c.run.new.writer ≡ c.args.writer.now) in
      let shut = g.F.SpoolFiles.unopened c.args.files.now in
      let shut' = g.F.SpoolFiles.unopened c.refused_in.new.files in
      leaves_as holds disks c.args.path.now c.in-Ok.disk d
      (λ x d'. (StaysShut shut shut' c.args.path.now x c.refused_in.result d' × none)
      ⊎ RanIn {T = Unit {0}} disk x (Err c.refused_in.result) input before after none d') opened.0 is
      (leaves_again holds disks c.args.path.now None _ _
      (c.refused_in.ensures.left _ opened.1) (λ d' reads. inr (record {
        run = Err (c.in-Err-run.disk, c.in-Err-run.fault);
        runs = record {
          runs = ran.runs;
          writes = ran.writes;
          given = ran.given;
          exact = ran.exact;
          unopened = ran.unopened;
          unwritten = ran.unwritten;
          same = ran.same;
          counts = ran.counts;
        };
        answers = c.refused_in.ensures.fault ∙ c.fault_of.ensures;
        reads = reads;
      })));
  io = refused_told c.in-Err-run.disk c.in-Err-run.fault c.refused_in.result _ _ _ _
      (c.refused_in.ensures.fault ∙ c.fault_of.ensures) c.in-Err-run.ensures.io;
}
