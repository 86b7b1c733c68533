use Rattle.std.proofs.Common.{refl, sym, subst}
use Rattle.gateway_rounds.specs.declared.round.End.{End}
use Rattle.gateway_rounds.specs.Rounds.{IsEnd}
use Rattle.gateway_rounds.proofs.Passing.{crashed}
use Rattle.gateway_rounds.proofs.round.end_of.Goals as goal

pub returns-in-Crash : goal.returns-in-Crash
returns-in-Crash g c n left all =
    let ended =
    crashed g.D.Disk g.D.CrashDisk.chosen c.in-Crash.how c.args.disk c.restart.result n left all
    c.restart.ensures.chosen c.restart.ensures.size c.restart.ensures.honest.0 c.restart.ensures.image
    c.restart.ensures.is_synced c.restart.ensures.counts in (
      ended.0,
      ended.1,
      subst (λ (end : End g.row.D-How.Denot). IsEnd g.D.Disk g.D.CrashDisk.chosen end c.args.disk c.restart.result left
          ended.0) (sym c.in-Crash.is) ended.2,
    )

pub returns-in-Nothing : goal.returns-in-Nothing
returns-in-Nothing g c n left all = (
  left,
  all,
  subst (λ (end : End g.row.D-How.Denot). IsEnd g.D.Disk g.D.CrashDisk.chosen end c.args.disk c.args.disk left left)
      (sym c.in-Nothing.is) (refl, refl),
)
