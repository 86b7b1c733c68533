-- A gateway whose calls are logged.
use Rattle.gateway_engine.specs.declared.gateway.Gateway.{Gateway}
use Rattle.gateway_up.specs.declared.watched.Watched.{Watched}

-- the gateway under the log
abbrev pub gateway_under : {U T W B : Type 0} → Watched U T W B → Gateway U B
gateway_under watched = watched.gateway
