use Rattle.gateway_serve.specs.Longest.{IsLongest}
use Rattle.gateway_serve.proofs.rounds.longest_pause.Given as goal

abbrev pub invariant-loop-conn : goal.invariant-loop-conn
invariant-loop-conn g l = IsLongest l.places l.conn l.longest
