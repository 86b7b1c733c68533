use Rattle.std.proofs.Common.{arith, ◌∙◌}
use Rattle.std.proofs.lemmas.Grind.{common_steps}
use Rattle.std.proofs.lemmas.List.{get_or-set_other}
use Rattle.gateway_rounds.proofs.Living.{lives_all, lives_next}
use Rattle.gateway_rounds.proofs.life.live_through.Goals as goal

pub loop-i-preserved : goal.loop-i-preserved
loop-i-preserved g c =
    let inv = c.loop-i.invariant in
    let i = c.loop-i.i in record {
      as_long = grind (arith, common_steps, inv.as_long);
      rest = λ k r le. get_or-set_other c.loop-i.rounds i k c.live-disk.new.round r (omega (arith, le))
          ∙ inv.rest k r (omega (arith, le));
      lived = λ n m all.
          let so_far = inv.lived n m all in
          let one = c.live-disk.ensures n so_far.0 so_far.1 in (
            one.0,
            one.1.shows,
            lives_next g.D.Disk g.D.CrashDisk.chosen n c.args.disk m c.args.rounds.now c.loop-i.rounds i c.loop-i.disk
                c.live-disk.result so_far.0 one.0
                c.index-rounds-i.result c.live-disk.new.round (omega arith) inv.as_long c.index-rounds-i.is
                (inv.rest i c.index-rounds-i.result (omega arith)) so_far.2 one.1,
          );
    }

pub returns : goal.returns
returns g c n m all =
    let inv = c.loop-i.invariant in
    let lived = inv.lived n m all in (
      lived.0,
      lives_all g.D.Disk g.D.CrashDisk.chosen n c.args.disk m c.args.rounds.now c.loop-i.rounds c.loop-i.i
          c.loop-i.disk lived.0 inv.as_long (omega arith) lived.2,
    )
