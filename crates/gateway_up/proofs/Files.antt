-- The file of a spool that was served.
use Rattle.std.proofs.Common.{◌≡◌, ◌⊎◌, inr, ℕ, List, None, Option, Some, Result, Ok, Err}
use Rattle.std.specs.Prelude.{IsErrAnd}
use Rattle.std.specs.declared.net.socket_addr.SocketAddr.{SocketAddr}
use Rattle.std.specs.declared.time.Duration.{Duration}
use Rattle.spool_disk.specs.declared.disk.Disk as disks
use Rattle.spool_image.specs.declared.spool.Spool.{Spool}
use Rattle.tus_session.specs.declared.connections.Connections as connections
use Rattle.gateway_engine.specs.declared.gateway.Gateway.{Gateway}
use Rattle.gateway_outside.specs.Failures.{fault_in}
use Rattle.gateway_outside.specs.Held.{leaves_again, leaves_as, leaves_put, unread}
use Rattle.gateway_outside.specs.Openings.{StaysShut}
use Rattle.gateway_outside.specs.SpoolFiles.{Disks, Leaves, OnlyRead, with_disk}
use Rattle.gateway_outside.specs.declared.failures.Failure.{Failure}
use Rattle.gateway_outside.specs.declared.openings.Unopened.{Unopened}
use Rattle.gateway_up.specs.Serving.{ServedIn, ServesDisk}
use Rattle.gateway_up.specs.Stops.{fault_of}
use Rattle.gateway_up.specs.declared.listeners.ListenCall.{ListenCall}
use Rattle.gateway_up.specs.declared.stops.Stopped.{Stopped}

module _ {D B S : Type 0} (disk : disks.Ghosts D) (c : connections.Ghosts (Gateway (Spool D disk) B))
    (remaining contents : S → Option (List ℕ)) (asked asked' : List ListenCall)
    (shown shown' : List (Option Duration)) (refused refused' : ℕ) (address : SocketAddr) (most turns : ℕ)
    (untouched : Type 0) (holds : Disks D → Type 0) (shut shut' : List Unopened) (path : List ℕ) (disks : Disks D) where
  abbrev Came : Result (Unit {0}) Failure → D → D → Type 0
  Came result d d' = IsErrAnd result (λ failure. StaysShut shut shut' path d failure d' × untouched)
      ⊎ ServedIn disk c remaining contents asked asked' shown shown' refused refused' address most turns
      untouched d result d'

  -- it was closed, and served to the end
  pub ended_at : (there d back : D) → disks path ≡ Some there → disks path ≡ Some d
      → holds (with_disk (with_disk disks path None) path (Some back))
      → ServesDisk disk c remaining contents asked asked' shown shown' refused refused' address most turns
      untouched there (Ok back)
      → Leaves holds disks path (Came (Ok (tt {0})) d)
  ended_at there d back at is held so =
      leaves_as holds disks path there d (Came (Ok (tt {0}))) at is (leaves_put holds disks path None _ back held
      (inr (record { run = Ok back; serves = so; answers = tt {0}; reads = unread disk back })))

  -- or not
  pub stopped_at : (there d back : D) (stopped : Stopped) (failure : Failure) → disks path ≡ Some there
      → disks path ≡ Some d → Leaves holds (with_disk disks path None) path (OnlyRead disk back)
      → ServesDisk disk c remaining contents asked asked' shown shown' refused refused' address most turns
      untouched there (Err (back, stopped))
      → fault_in failure ≡ fault_of stopped → Leaves holds disks path (Came (Err failure) d)
  stopped_at there d back stopped failure at is left so same =
      leaves_as holds disks path there d (Came (Err failure)) at is (leaves_again holds disks path None _ _ left
      (λ d' reads. inr (record { run = Err (back, stopped); serves = so; answers = same; reads = reads })))
