use Rattle.std.proofs.Common.{◌∙◌, ◌++◌, ap, subst, List, Option, ℕ}
use Rattle.sha2.specs.Hashers.{Holds256}
use Rattle.gateway_indexes.specs.Digests.{bytes_at, entry_bytes}
use Rattle.gateway_indexes.proofs.Digested.{bytes_next, bytes_none}
use Rattle.gateway_indexes.proofs.digests.digest_of.Goals as goal

pub loop-pointer-init : goal.loop-pointer-init
loop-pointer-init g c =
    subst (λ (m : List ℕ). Holds256 c.new-hasher.result m) (bytes_none (g.T.Table.pairs c.args.table.now))
    c.new-hasher.ensures

pub loop-pointer-preserved : goal.loop-pointer-preserved
loop-pointer-preserved g c =
    let index = g.T.Table.pairs c.args.table.now in
    let pointer = c.loop-pointer.pointer in
    subst (λ (m : List ℕ). Holds256 c.add_entry.new.hasher m)
    (ap (λ (o : Option ℕ). entry_bytes index pointer ++ bytes_at pointer o) c.code_at.ensures
    ∙ bytes_next index pointer)
    (c.add_entry.ensures _ c.loop-pointer.invariant)
