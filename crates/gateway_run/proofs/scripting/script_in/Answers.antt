use Rattle.gateway_run.proofs.Told.{fresh_told, io_told, runs_told}
use Rattle.gateway_run.proofs.scripting.script_in.Goals as goal

pub returns-in-Err : goal.returns-in-Err
returns-in-Err g c = record {
  script = (
    λ named.
        runs_told c.in-Err.failure c.by_streams.result c.by_streams.ensures g.F.File.Disk
        (g.F.SpoolFiles.holds c.args.files.now) (g.F.SpoolFiles.holds c.run_at.new.files)
        (g.F.SpoolFiles.unopened c.args.files.now) (g.F.SpoolFiles.unopened c.run_at.new.files) c.args.spool.now
        (g.I.CountedRead.remaining c.args.input.now) (g.W.CountedWrite.contents c.args.output.now)
        (g.W.CountedWrite.contents c.run_at.new.writer) _ (c.in-Err.ensures.script.0 named),
    λ named. (
      (c.in-Err.ensures.script.1 named).0,
      fresh_told c.in-Err.failure c.by_streams.result c.by_streams.ensures _
          (g.I.CountedRead.remaining c.args.input.now) (g.W.CountedWrite.contents c.args.output.now)
          (g.W.CountedWrite.contents c.run_at.new.writer) _ (c.in-Err.ensures.script.1 named).1,
    ),
  );
  io = io_told c.in-Err.failure c.by_streams.result c.by_streams.ensures _ _ _ _ c.in-Err.ensures.io;
}
