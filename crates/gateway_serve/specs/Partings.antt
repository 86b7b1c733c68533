-- Which sockets drain.
use Rattle.std.specs.Prelude.{◌+◌, ℕ, Bool, true, false, List, [], ◌∷◌}
use Rattle.gateway_serve.specs.Acceptors.{one_when}
use Rattle.gateway_serve.specs.Stays.{has_just_moved}
use Rattle.gateway_serve.specs.declared.reasons.Gone.{Gone}
use Rattle.gateway_serve.specs.declared.reasons.Gone.TheVariants as Why
use Rattle.gateway_serve.specs.declared.reasons.Reason.{Reason}
use Rattle.gateway_serve.specs.declared.reasons.Reason.TheVariants.{Closed, Lost, Over}
use Rattle.gateway_serve.specs.declared.sockets.Seen.{Seen}

-- THE REASONS for which a socket drains: the session closed its connection, or that gave way just after a reply
abbrev pub drains_gone : Gone → Bool
drains_gone Why.Ended = false
drains_gone (Why.Failed kind) = false
drains_gone Why.Stuck = false
drains_gone (Why.Late stay) = has_just_moved stay

abbrev pub drains_for : Reason → Bool
drains_for Closed = true
drains_for (Lost gone) = drains_gone gone
drains_for Over = false

-- how many of these sockets were to drain
abbrev pub count_draining : List Seen → ℕ
count_draining [] = 0
count_draining (s ∷ ended) = one_when (drains_for s.reason) + count_draining ended
