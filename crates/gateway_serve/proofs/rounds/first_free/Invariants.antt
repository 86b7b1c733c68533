use Rattle.std.proofs.Common.{◌≢◌, ◌<◌, ℕ, get_or}
use Rattle.gateway_serve.specs.declared.places.Place.TheVariants.{Free}
use Rattle.gateway_serve.proofs.rounds.first_free.Given as goal

abbrev pub invariant-loop-conn : goal.invariant-loop-conn
invariant-loop-conn g l = (k : ℕ) → k < l.conn → get_or l.places k Free ≢ Free
