-- Listeners that look after the file of a spool.
use Rattle.gateway_up.specs.declared.guarded.Guarded.{Guarded}

abbrev pub acceptor_under : {A : Type 0} → Guarded A → A
acceptor_under guarded = guarded.acceptor
