-- Which listeners were asked for.
use Rattle.std.specs.Prelude.{◌≡◌, ◌∷◌, Bool, List}
use Rattle.std.specs.declared.net.socket_addr.SocketAddr.{SocketAddr}
use Rattle.gateway_up.specs.declared.listeners.ListenCall.{ListenCall}
use Rattle.gateway_up.specs.declared.listeners.SystemListeners.{SystemListeners}

-- the call for a listener at this address, which was given or not
abbrev pub listen_call : SocketAddr → Bool → ListenCall
listen_call address listens = record { address = address; listens = listens }

-- those of the system that were asked for
abbrev pub asked_of : SystemListeners → List ListenCall
asked_of listeners = listeners.asked.items

-- the one call since then was for this address, and gave a listener or not
abbrev pub Listens : List ListenCall → List ListenCall → SocketAddr → Bool → Type 0
Listens before after address listens = after ≡ listen_call address listens ∷ before
