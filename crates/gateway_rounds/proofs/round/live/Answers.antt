use Rattle.std.proofs.Common.{refl}
use Rattle.spool_image.proofs.Crashed.{text_shown}
use Rattle.gateway_rounds.proofs.Bytes.{round_left}
use Rattle.gateway_rounds.proofs.round.live.Goals as goal

pub returns : goal.returns
returns g c n before all =
    let worked = c.work_on-back.ensures n before all in
    let ended = c.end_of.ensures n worked.0 worked.1 in (
      ended.0,
      record {
        back = c.work_on-back.result;
        left = worked.0;
        work = worked.2;
        shown = worked.1;
        same_end = refl;
        end = ended.2;
        shows = ended.1;
        texts = λ image m shows is k u there. text_shown n image m k u shows there;
        bytes = round_left g.D.Disk g.D.CrashDisk.chosen n c.args.disk c.work_on-back.result _ _ worked.0 ended.0 _ _ _
            worked.2 ended.2;
      },
    )
