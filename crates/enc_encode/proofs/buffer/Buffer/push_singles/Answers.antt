use Rattle.std.proofs.Common.{take}
use Rattle.enc_encode.specs.Runs.{RunPrefix}
use Rattle.enc_encode.specs.Singles.{IsSingleByte}
use Rattle.enc_encode.proofs.Prefixes.{left_text}
use Rattle.enc_encode.proofs.RunPrefixes.{run_none, run_both}
use Rattle.enc_encode.proofs.buffer.Buffer.push_singles.Goals as goal
use Rattle.enc_encode.proofs.buffer.Buffer.push_singles.Goals.{else-loop-len-test, then-loop-len-test+then-stops}

pub loop-len-init : goal.loop-len-init
loop-len-init c = (
  c.utf8.text,
  c.self.invariant,
  c.self.told,
  run_none _ c.args.text.now c.args.self.now (take c.self.inside.len c.self.inside.bytes) c.self.view_is,
)

pub loop-len-preserved : goal.loop-len-preserved
loop-len-preserved c =
    let rest = c.loop-len.rest.now in
    let left = c.put_run-end.result.0.now in
    let v = c.loop-len.invariant in
    let p = c.put_run-end.ensures.run in (
      left_text rest p.prefix left v.0 p.own p.parts,
      c.put_run-end.ensures.more.1,
      c.put_run-end.array_long,
      run_both (IsSingleByte c.args.pointers.now) c.args.text.now rest left c.args.self.now
          (take c.loop-len.len c.loop-len.self-inside.bytes)
          (take c.put_run-end.result.1 c.put_run-end.new.held) v.3
          p,
    )

pub returns : goal.returns
returns c =
    let gives = IsSingleByte c.args.pointers.now in
    let text = c.args.text.now in
    let held = c.args.self.now in
    let rest = c.loop-len-test.rest.now in
    let mid = take c.loop-len-test.len c.loop-len-test.self-inside.bytes in
    let run : RunPrefix gives text rest held mid =
    elim c.loop-len-test.branch [
      | else-loop-len-test w ↦ rw (w.len-is, w.rest-is, w.self-inside-is) c.loop-len.invariant.3
      | then-loop-len-test+then-stops w ↦ rw (w.len-is, w.rest-is, w.self-inside-is)
          (run_both gives text c.loop-len.rest.now w.put_run-end.result.0.now held
          (take c.loop-len.len c.loop-len.self-inside.bytes)
          (take w.put_run-end.result.1 w.put_run-end.new.held) c.loop-len.invariant.3
          w.put_run-end.ensures.run)
    ] in
    run_both gives text rest c.put_last_ascii-end.result.0.now held mid
    (take c.put_last_ascii-end.result.1 c.put_last_ascii-end.new.held) run
    (c.put_last_ascii-end.ensures.run c.args.pointers.now)
