-- The bytes of a socket.
use Rattle.std.specs.Prelude.{ℕ, List}
use Rattle.gateway_serve.specs.declared.sockets.Seen.{Seen}
use Rattle.gateway_serve.specs.declared.sockets.Socket.{Socket}
use Rattle.gateway_serve.specs.declared.sockets.Latest.{Latest}
use Rattle.gateway_serve.specs.declared.sockets.Spell.{Spell}
use Rattle.gateway_serve.specs.declared.reasons.Reason.{Reason}

abbrev pub bytes_come : {S : Type 0} → Socket S → List ℕ
bytes_come s = s.came.items

abbrev pub went_of : {S : Type 0} → Socket S → List ℕ
went_of s = s.went.items

abbrev pub stream_of : {S : Type 0} → Socket S → S
stream_of s = s.stream

abbrev pub latest_of : {S : Type 0} → Socket S → Latest
latest_of s = s.latest

abbrev pub spell_of : {S : Type 0} → Socket S → Spell
spell_of s = s.spell

-- what is seen of it, where it served the connection with this number and ended for this reason
abbrev pub current : {S : Type 0} → ℕ → Socket S → Reason → Seen
current n s reason = record {
  conn = n;
  came = s.came;
  went = s.went;
  latest = latest_of s;
  spell = spell_of s;
  reason = reason;
}
