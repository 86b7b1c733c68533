-- Why a socket is given up.
use Rattle.std.specs.Prelude.{◌≡◌, ◌≢◌, ◌⊎◌, ◌<◌, ℕ, Bool, true, List, [], ◌∷◌, Result, Ok, Err}
use Rattle.std.specs.declared.time.Duration.{Duration}
use Rattle.std.specs.IoError.{error_kind}
use Rattle.std.specs.declared.io.Error.{Error}
use Rattle.std.specs.declared.io.ErrorKind.{ErrorKind}
use Rattle.std.specs.declared.io.ErrorKind.TheVariants as Kind
use Rattle.gateway_serve.specs.declared.sockets.Latest.{Latest}
use Rattle.gateway_serve.specs.declared.sockets.Spell.{Spell}
use Rattle.gateway_serve.specs.declared.sockets.Latest.TheVariants as Was
use Rattle.gateway_serve.specs.declared.reasons.Gone.{Gone}
use Rattle.gateway_serve.specs.declared.reasons.Gone.TheVariants.{Ended, Failed, Stuck, Late}
use Rattle.gateway_serve.specs.declared.stages.Left.{Left}
use Rattle.gateway_serve.specs.declared.stages.Left.TheVariants as Is

-- a read or write failed so, and not because it would have waited or was interrupted
abbrev pub IsFailure : ErrorKind → Type 0
IsFailure kind = (kind ≢ Kind.WouldBlock) × (kind ≢ Kind.Interrupted)

-- THE LATEST CALL of a stream, as a read or a write answered
abbrev pub after_read : ℕ → Result ℕ Error → Latest
after_read room (Ok n) = Was.Read n room
after_read room (Err e) = Was.Failed (error_kind e)

abbrev pub after_write : ℕ → Result ℕ Error → Latest
after_write offered (Ok n) = Was.Written n offered
after_write offered (Err e) = Was.Failed (error_kind e)

-- and its times: it was opened, and something last came or went
abbrev pub opened_at : Duration → Spell
opened_at now = record { opened = now; moved = now }

abbrev pub moved_at : Duration → Spell → Spell
moved_at now spell = record { opened = spell.opened; moved = now }

abbrev pub moved_by : Result ℕ Error → Duration → Spell → Spell
moved_by (Ok n) now spell = moved_at now spell
moved_by (Err e) now spell = spell

-- THE REASONS by what the latest call of the stream answered: a read that had room gave nothing, a read or write
-- failed, or a write that was offered something took nothing. That a connection's time is over is none of the stream's
abbrev pub EndsBy : Gone → Latest → Type 0
EndsBy Ended latest = (room : ℕ) × (0 < room) × (latest ≡ Was.Read 0 room)
EndsBy (Failed kind) latest = (latest ≡ Was.Failed kind) × IsFailure kind
EndsBy Stuck latest = (offered : ℕ) × (0 < offered) × (latest ≡ Was.Written 0 offered)
EndsBy (Late stay) latest = ⊥

-- a time that the clock showed
abbrev pub IsAmong : Duration → List Duration → Type 0
IsAmong now [] = ⊥
IsAmong now (time ∷ times) = (now ≡ time) ⊎ IsAmong now times

-- a turn began then, and if a client is to have waited for a place in it, one did
abbrev pub IsTurn : Duration → Bool → List Duration → List Bool → Type 0
IsTurn now wanted [] waits = ⊥
IsTurn now wanted (time ∷ times) [] = ⊥
IsTurn now wanted (time ∷ times) (waits ∷ others) =
    ((now ≡ time) × (wanted ≡ true → waits ≡ true)) ⊎ IsTurn now wanted times others

-- the times of a connection are among these
abbrev pub IsTimed : List Duration → Spell → Type 0
IsTimed times spell = IsAmong spell.opened times × IsAmong spell.moved times

abbrev pub IfLost : Left → (Gone → Type 0) → Type 0
IfLost Is.Open P = Unit {0}
IfLost Is.Idle P = Unit {0}
IfLost Is.Closed P = Unit {0}
IfLost (Is.Lost gone) P = P gone
