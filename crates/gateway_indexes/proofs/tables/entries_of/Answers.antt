use Rattle.std.proofs.Common.{arith}
use Rattle.gateway_indexes.proofs.Entries.{entries_next, entries_none}
use Rattle.gateway_indexes.proofs.tables.entries_of.Goals as goal

pub loop-pointer-init : goal.loop-pointer-init
loop-pointer-init g c = (omega arith, entries_none (g.T.Table.pairs c.args.table.now))

pub loop-pointer-preserved : goal.loop-pointer-preserved
loop-pointer-preserved g c =
    let next = entries_next (g.T.Table.pairs c.args.table.now) c.loop-pointer.pointer in
    let here = c.loop-pointer.invariant in
    let one = c.entry_at-count.ensures.one in
    let most = c.entry_at-count.ensures.most in
    let below = here.0 in
    let so_far = here.1 in
    (omega (arith, below, most), omega (arith, so_far, one, next))
