-- Listeners whose clients are logged.
use Rattle.gateway_up.specs.declared.logged.Logged.{Logged}

abbrev pub acceptor_logged : {A T W : Type 0} → Logged A T W → A
acceptor_logged logged = logged.acceptor
