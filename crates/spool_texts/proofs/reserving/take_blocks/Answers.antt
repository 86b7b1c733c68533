use Rattle.std.proofs.Common.{arith}
use Rattle.spool_texts.proofs.Reserves.{takes_on}
use Rattle.spool_texts.proofs.reserving.take_blocks.Goals as goal

pub loop-list-preserved : goal.loop-list-preserved
loop-list-preserved c =
    let inv = c.loop-list.invariant in
    record {
      space = omega (arith, inv.space, c.take_block.ensures.space);
      few = c.take_block.ensures.few;
      within = omega (arith, c.in_ok-take_block.ensures.one, c.loop-list-test.true, c.len.ensures);
      takes = takes_on inv.takes c.take_block.ensures.takes;
      reserved = c.take_block.ensures.reserved;
    }

pub returns-in_err-take_block-clause-takes : goal.returns-in_err-take_block-clause-takes
returns-in_err-take_block-clause-takes c = takes_on c.loop-list.invariant.takes c.take_block.ensures.takes
