use Rattle.std.proofs.Common.{sym, subst}
use Rattle.gateway_rounds.specs.declared.round.Work.{Work}
use Rattle.gateway_rounds.specs.declared.round.Work.TheVariants.{Raise, Run, Upgrade}
use Rattle.gateway_rounds.specs.Rounds.{IsWork}
use Rattle.gateway_rounds.proofs.round.work_on.Goals as goal

pub returns-in-Run : goal.returns-in-Run
returns-in-Run g c n before all =
    let one = c.live_run.ensures n before all in (
      one.0,
      one.1,
      subst (λ (work : Work). IsWork g.D.Disk n c.args.disk c.live_run.result before one.0 work
          (Run c.live_run.new.round)) (sym c.in-Run.is) one.2,
    )

pub returns-in-Upgrade : goal.returns-in-Upgrade
returns-in-Upgrade g c n before all =
    let one = c.live_upgrade.ensures n before all in (
      one.0,
      one.1,
      subst (λ (work : Work). IsWork g.D.Disk n c.args.disk c.live_upgrade.result before one.0 work
          (Upgrade c.live_upgrade.new.error)) (sym c.in-Upgrade.is) one.2,
    )

pub returns-in-Raise : goal.returns-in-Raise
returns-in-Raise g c n before all =
    let one = c.live_raise.ensures n before all in (
      one.0,
      one.1,
      subst (λ (work : Work). IsWork g.D.Disk n c.args.disk c.live_raise.result before one.0 work
          (Raise c.live_raise.new.asked)) (sym c.in-Raise.is) one.2,
    )
