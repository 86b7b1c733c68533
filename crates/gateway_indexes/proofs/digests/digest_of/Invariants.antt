use Rattle.sha2.specs.Hashers.{Holds256}
use Rattle.gateway_indexes.specs.Digests.{entry_bytes}
use Rattle.gateway_indexes.proofs.digests.digest_of.Given as goal

abbrev pub invariant-loop-pointer : goal.invariant-loop-pointer
invariant-loop-pointer g l = Holds256 l.hasher (entry_bytes (g.T.Table.pairs l.table) l.pointer)
