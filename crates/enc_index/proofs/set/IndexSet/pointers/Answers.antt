use Rattle.std.proofs.Common.{nat_le}
use Rattle.enc_index.proofs.Bounds.{below_found}
use Rattle.enc_index.proofs.set.IndexSet.pointers.Goals as goal

pub returns-clause-bounded : goal.returns-clause-bounded
returns-clause-bounded c = λ n.
    rw (c.pointers.ensures n)
    (below_found (λ p. nat_le 0 p) _ c.args.kind n c.in_ok-table.field-0.now c.self.invariant
    (rw (← c.self.view_is) at c.in_ok-table.ensures))
