use Rattle.std.proofs.Common.{[], Ok, Err, inl, refl, sym, subst}
use Rattle.common.specs.declared.stop.Stop.TheVariants.{NoMemory}
use Rattle.upload_rules.specs.World.{at_rest}
use Rattle.tus_session.specs.History.{beginning}
use Rattle.tus_session.specs.Images.{stores_of}
use Rattle.tus_session.proofs.Counting.{uncounted}
use Rattle.gateway_script.specs.Script.{run_lines, script_lines, run_from}
use Rattle.gateway_engine.specs.Gateways.{store_of, as_connections}
use Rattle.gateway_script.specs.Runs.{view, IsRunAt, LinesEnd}
use Rattle.gateway_engine.specs.Ran.{HasRun}
use Rattle.gateway_script.specs.declared.faults.ScriptFault.TheVariants as runs
use Rattle.gateway_engine.proofs.Exits.{begins, ran, stopped, unbegun, some_script, shows_since, shows_through}
use Rattle.gateway_engine.proofs.Exits.{last_through}
use Rattle.gateway_engine.proofs.Exits.{counts_nothing, reader_counts, none_counts, writer_counts}
use Rattle.gateway_engine.proofs.scripts.run_over.Goals as goal

pub returns-in-Err : goal.returns-in-Err
returns-in-Err g c = record {
  output = λ sure m blocks represents.
      let script = some_script (g.R.CountedRead.remaining c.args.reader.now) in (
        script.0,
        script.1,
        unbegun g.U.Uploads sure c.args.store (g.W.CountedWrite.contents c.args.writer.now)
            (beginning m blocks) script.0 represents
            (λ known ms among. g.met.U.Uploads.durable c.args.store (at_rest m blocks) ms
            (subst (λ b. g.U.Uploads.represents c.args.store b (at_rest m blocks)) known represents) among)
            c.in-Err.fault
            c.in-Err.ensures.err,
      );
  counts = counts_nothing (g.U.Uploads.failures c.args.store) c.args.store c.in-Err.fault c.in-Err.ensures.err;
  io = reader_counts c.args.store c.in-Err.fault c.in-Err.ensures.io;
}

pub returns-in-Err-new-clause-output : goal.returns-in-Err-new-clause-output
returns-in-Err-new-clause-output g c = λ sure m blocks represents.
    let st = beginning m blocks in
    let held = g.W.CountedWrite.contents c.args.writer.now in
    let script = c.in-Ok.script.items in (
      script,
      c.in-Ok.ensures.ok,
      subst (λ s. HasRun g.U.Uploads sure c.args.store (Err (s, runs.Stop NoMemory)) held held st script)
          (sym c.in-Err-new.ensures.back)
          (unbegun g.U.Uploads sure c.args.store held st script represents
          (λ known ms among. g.met.U.Uploads.durable c.args.store (at_rest m blocks) ms
          (subst (λ b. g.U.Uploads.represents c.args.store b (at_rest m blocks)) known represents) among)
          (runs.Stop NoMemory)
          (inl refl)),
    )

pub returns-in-Ok-run_script-clause-output : goal.returns-in-Ok-run_script-clause-output
returns-in-Ok-run_script-clause-output g c = λ sure m blocks represents.
    let script = c.in-Ok.script.items in
    let prefix = g.W.CountedWrite.contents c.args.writer.now in
    let u = g.U.Uploads in
    let st = beginning m blocks in
    let gateway = c.in-Ok-new.gateway in
    let now = c.run_script.new.core in
    let w = view (as_connections u) sure gateway gateway st prefix prefix in
    let at : IsRunAt w (run_from st []) = begins w refl (c.in-Ok-new.ensures.ok sure m blocks represents) refl in
    let v = view (as_connections u) sure gateway now st (g.W.CountedWrite.contents c.run_script.new.writer) prefix in (
      script,
      c.in-Ok.ensures.ok,
      ran u v c.args.store c.close.result script (λ s is. c.close.ensures.represents sure s is)
          (λ known past shown. shows_since u c.args.store c.close.result st past
          (λ ms among. g.met.U.Uploads.durable c.args.store (at_rest m blocks) ms
          (subst (λ b. g.U.Uploads.represents c.args.store b (at_rest m blocks)) known represents) among)
          (shows_through u c.args.store (store_of gateway) (store_of now) c.close.result (stores_of st past)
          c.in-Ok-new.ensures.same c.close.ensures.crash shown))
          (λ past last. last_through u (store_of now) c.close.result st past c.close.ensures.crash last)
          (subst (λ b. LinesEnd v (Ok (tt {0})) (run_lines 1 0 (script_lines b)) (run_from st [])) c.deref.ensures.value
          (c.in-Ok-run_script.ensures.does sure gateway st (run_from st []) prefix at)),
    )

pub returns-clause-output : goal.returns-clause-output
returns-clause-output g c = λ sure m blocks represents.
    let script = c.in-Ok.script.items in
    let prefix = g.W.CountedWrite.contents c.args.writer.now in
    let u = g.U.Uploads in
    let st = beginning m blocks in
    let gateway = c.in-Ok-new.gateway in
    let now = c.run_script.new.core in
    let fault = c.in-Err-run_script.fault in
    let w = view (as_connections u) sure gateway gateway st prefix prefix in
    let at : IsRunAt w (run_from st []) = begins w refl (c.in-Ok-new.ensures.ok sure m blocks represents) refl in
    let v = view (as_connections u) sure gateway now st (g.W.CountedWrite.contents c.run_script.new.writer) prefix in
    let back = c.close-in-Err-run_script.result in (
      script,
      c.in-Ok.ensures.ok,
      stopped u v c.args.store back script (λ s is. c.close-in-Err-run_script.ensures.represents sure s is)
          (λ known past shown. shows_since u c.args.store back st past
          (λ ms among. g.met.U.Uploads.durable c.args.store (at_rest m blocks) ms
          (subst (λ b. g.U.Uploads.represents c.args.store b (at_rest m blocks)) known represents) among)
          (shows_through u c.args.store (store_of gateway) (store_of now) back (stores_of st past)
          c.in-Ok-new.ensures.same c.close-in-Err-run_script.ensures.crash shown))
          (λ past last. last_through u (store_of now) back st past c.close-in-Err-run_script.ensures.crash last)
          fault (subst (λ b. LinesEnd v (Err fault) (run_lines 1 0 (script_lines b)) (run_from st []))
          c.deref.ensures.value
          (c.in-Err-run_script.ensures.does sure gateway st (run_from st []) prefix at)),
    )

pub returns-in-Err-new-clause-io : goal.returns-in-Err-new-clause-io
returns-in-Err-new-clause-io g c =
    none_counts (uncounted (λ fails. absurd (cc)) c.in-Ok.ensures.io) refl

pub returns-in-Ok-run_script-clause-io : goal.returns-in-Ok-run_script-clause-io
returns-in-Ok-run_script-clause-io g c =
    none_counts (uncounted (λ fails. absurd (cc)) c.in-Ok.ensures.io)
    (uncounted (λ fails. absurd (cc)) c.in-Ok-run_script.ensures.io)

pub returns-clause-io : goal.returns-clause-io
returns-clause-io g c =
    writer_counts c.close-in-Err-run_script.result c.in-Err-run_script.fault
    (uncounted (λ fails. absurd (cc)) c.in-Ok.ensures.io) c.in-Err-run_script.ensures.io
