use Rattle.std.proofs.Common.{List, ℕ, sym, ap, ◌∙◌}
use Rattle.tus_request.specs.Searches.{after_bytes}
use Rattle.tus_request.proofs.SearchLemmas.{over_stays}
use Rattle.tus_request.proofs.search.Search.after.Goals as goal

pub returns-in-Over : goal.returns-in-Over
returns-in-Over c =
    let rest : List ℕ = c.loop-byte.rest.now in
    c.in-Over.is ∙ (sym (ap (λ s. after_bytes s rest) c.in-Over.is ∙ over_stays rest) ∙ c.loop-byte.invariant)
