use Rattle.std.proofs.Common.{◌≡◌, ◌≤◌}
use Rattle.gateway_indexes.specs.IndexFiles.{entries}
use Rattle.gateway_indexes.proofs.tables.entries_of.Given as goal

abbrev pub invariant-loop-pointer : goal.invariant-loop-pointer
invariant-loop-pointer g l = (l.count ≤ l.pointer) × (l.count ≡ entries (g.T.Table.pairs l.table) l.pointer)
