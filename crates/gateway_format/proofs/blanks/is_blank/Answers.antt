use Rattle.std.proofs.Common.{rules, arith}
use Rattle.gateway_format.proofs.Blank.{blank_more, read_on}
use Rattle.gateway_format.proofs.blanks.is_blank.Goals as goal

pub loop-at-preserved : goal.loop-at-preserved
loop-at-preserved g c =
    let is = c.loop-at.invariant in
    let one = c.in_ok-is_blank_from.ensures in (
      let le = is.0 in omega (arith, le, c.loop-at-test.true, c.min-count.ensures),
      read_on g.D.Disk _ _ _ is.1 one.read,
      λ honest. blank_more (g.D.Disk.current c.args.disk.now) (g.D.Disk.current c.loop-at.disk) c.loop-at.at
          c.min-count.result (is.2 honest) (is.1.preserves honest).same
          (one.yes (is.1.honest honest) (search rules)),
    )
