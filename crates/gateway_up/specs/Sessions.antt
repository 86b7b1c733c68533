-- What serving connections came to, from before to now.
use Rattle.std.specs.Prelude.{ℕ, Bool, List, [], Option, Result, IsErr}
use Rattle.std.specs.declared.time.Duration.{Duration}
use Rattle.common.specs.Counts.{Counts}
use Rattle.common.specs.declared.stop.DiskFault.{DiskFault}
use Rattle.tus_session.specs.History.{State}
use Rattle.tus_session.specs.declared.connections.Connections.{Ghosts}
use Rattle.gateway_serve.specs.Acceptors.{HasServed}
use Rattle.gateway_serve.specs.Drains.{HasDrained}
use Rattle.gateway_serve.specs.Reasons.{IsLeftReasoned}
use Rattle.gateway_serve.specs.Served.{AllLeft, AllServed, ServesPart}
use Rattle.gateway_serve.specs.Streams.{AllHad}
use Rattle.gateway_serve.specs.Times.{HasShown}
use Rattle.gateway_serve.specs.declared.doors.AtDoor.{AtDoor}
use Rattle.gateway_serve.specs.declared.doors.Clients.{Clients}
use Rattle.gateway_serve.specs.declared.drains.Drained.{Drained}
use Rattle.gateway_serve.specs.declared.sockets.Seen.{Seen}

-- A SESSION OF SERVING, from the connections before to those now, for so many turns and connections at most, over
-- streams that have and hold these bytes: what `gateway_serve::serve_on` promises, of a listener that was asked nothing
-- before
pub record Session {C S : Type 0} (c : Ghosts C) (remaining contents : S → Option (List ℕ)) (before now : C)
    (served : Result (Unit {0}) DiskFault) (shown shown' : List (Option Duration)) (turns most : ℕ) : Type 0 where
  pub answers : List Bool
  pub door : List AtDoor
  pub clients : Clients
  pub times : List Duration
  pub ended : List Seen
  pub drained : List Drained
  pub serves : (sure : Bool) (st : State) → c.represents before sure st
      → ServesPart c sure before now st served (AllServed sure ended clients.refused st)
      (AllLeft sure ended clients.refused st)
  pub counts : Counts (IsErr served) (c.failures before) (c.failures now)
  pub streams : AllHad remaining contents times ended
  pub reasons : IsLeftReasoned times door ended
  pub drains : HasDrained ended drained
  pub clock : HasShown shown shown' door times
  pub lets_in : HasServed [] answers turns most door clients ended (IsErr served)
