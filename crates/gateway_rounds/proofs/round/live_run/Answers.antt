use Rattle.std.proofs.Common.{◌∙◌, ℕ, List, None, Some, ap, refl, subst}
use Rattle.gateway_rounds.specs.Rounds.{PassesRun, read_of}
use Rattle.gateway_rounds.proofs.Passing.{counts_run, is_spool, ran, read_opens, refusals_done, refusals_reported}
use Rattle.gateway_rounds.proofs.Passing.{reported}
use Rattle.gateway_rounds.proofs.round.live_run.Goals as goal

pub returns-in-Ok : goal.returns-in-Ok
returns-in-Ok g c n before all =
    let disk = g.D.Disk in
    let given = c.args.disk in
    let back = c.in-Ok.disk in
    let m = read_opens disk given n before all in
    let has = c.in-Ok.ensures.runs n m.0 (is_spool disk given n before m.0 all m.1) in
    let lived = ran disk given back n before m.0 (g.met.D.Disk.counts_now back) (g.met.D.Disk.only_now given) all m.1
    c.args.round.now.written.bytes.items c.run.new.writer.bytes.items has.0 has.2 in (
      lived.0,
      lived.1,
      record {
        script = refl;
        store = m.0;
        opened = m.1;
        out = lived.2;
        written = lived.3;
        passes = subst (λ (bytes : List ℕ). PassesRun n m.0 bytes None lived.2 before lived.0)
            (has.1 ∙ ap read_of (c.new-script.ensures ∙ c.as_slice.ensures.value)) lived.4;
        counts = c.in-Ok.ensures.counts;
        refusals = refusals_done c.in-Ok.ensures.io;
      },
    )

pub returns-in-Err : goal.returns-in-Err
returns-in-Err g c n before all =
    let disk = g.D.Disk in
    let given = c.args.disk in
    let back = c.in-Err.disk in
    let fault = c.in-Err.fault in
    let m = read_opens disk given n before all in
    let has = c.in-Err.ensures.runs n m.0 (is_spool disk given n before m.0 all m.1) in
    let lived = reported disk given back n before m.0 (g.met.D.Disk.counts_now back) (g.met.D.Disk.only_now given)
    all m.1 c.args.round.now.written.bytes.items c.run.new.writer.bytes.items has.0 fault
    (λ same. ap (λ w. w.bytes.items) same.1) has.2 c.in-Err.ensures.unopened in (
      lived.0,
      lived.1,
      record {
        script = refl;
        store = m.0;
        opened = m.1;
        out = lived.2;
        written = lived.3;
        passes = subst (λ (bytes : List ℕ). PassesRun n m.0 bytes (Some fault) lived.2 before lived.0)
            (has.1 ∙ ap read_of (c.new-script.ensures ∙ c.as_slice.ensures.value)) lived.4;
        counts = counts_run back fault _ _ c.in-Err.ensures.counts;
        refusals = refusals_reported back fault _ _ c.in-Err.ensures.io;
      },
    )
