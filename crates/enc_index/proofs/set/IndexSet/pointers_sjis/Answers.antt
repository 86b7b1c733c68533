use Rattle.std.proofs.Common.{not}
use Rattle.enc_model.specs.Index.{within}
use Rattle.enc_index.specs.declared.kind.Kind.TheVariants.{Jis0208}
use Rattle.enc_index.proofs.Bounds.{below_found}
use Rattle.enc_index.proofs.set.IndexSet.pointers_sjis.Goals as goal

pub returns-clause-bounded : goal.returns-clause-bounded
returns-clause-bounded c = λ n.
    rw (c.pointers_sjis.ensures n)
    (below_found (λ p. not (within 8272 8835 p)) _ Jis0208 n c.in_ok-as_ref.field-0.now c.self.invariant
    (rw c.deref.ensures at c.in_ok-as_ref.ensures.value))
