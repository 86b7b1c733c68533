use Rattle.std.proofs.Common.{arith, rules, ◌≡◌, ◌+◌, length, ap}
use Rattle.spool_blocks.specs.Blocks.{Held}
use Rattle.spool_texts.proofs.Reserves.{few_more}
use Rattle.spool_texts.proofs.reserving.take_block.Goals as goal

pub returns-clause-few : goal.returns-clause-few
returns-clause-few c =
    let grown : length c.push.new.self.items ≡ length c.args.list.now.items + 1 = search rules in
    let rows = ap (λ (h : Held). length h.rows) c.in-Some.ensures.reserved in
    omega (
      arith,
      grown,
      rows,
      c.in-Some.ensures.few,
      few_more c.args.blocks.now c.args.list.now.items c.in-Some.block
          c.requires.reserved c.in-Some.ensures.free,
    )
