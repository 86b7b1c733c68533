-- Where the program listens.
use Rattle.std.specs.Prelude.{◌≡◌, ℕ, [], ◌∷◌}
use Rattle.std.specs.Net.Addr.{ipv4_octets}
use Rattle.std.specs.Net.Socket.{v4_ip, v4_port}
use Rattle.std.specs.declared.net.socket_addr.SocketAddr.{SocketAddr}
use Rattle.std.specs.declared.net.socket_addr.SocketAddr.TheVariants.{V4, V6}

-- a port of 127.0.0.1, and no other address
abbrev pub IsLocal : SocketAddr → ℕ → Type 0
IsLocal (V4 address) port = (ipv4_octets (v4_ip address) ≡ 127 ∷ 0 ∷ 0 ∷ 1 ∷ []) × (v4_port address ≡ port)
IsLocal (V6 address) port = ⊥
