-- Serving the spool in a file.
use Rattle.std.specs.Prelude.{◌≡◌, ◌⊎◌, ℕ, true, false, List, Option, None, Some, Result, Ok, Err, IsErrAnd}
use Rattle.std.specs.declared.net.socket_addr.SocketAddr.{SocketAddr}
use Rattle.std.specs.declared.time.Duration.{Duration}
use Rattle.common.specs.Counts.{Counts}
use Rattle.common.specs.declared.stop.DiskFault.{DiskFault}
use Rattle.common.specs.declared.stop.Stop.TheVariants as stops
use Rattle.spool_disk.specs.Views.{Lasts}
use Rattle.spool_disk.specs.declared.disk.Disk as disks
use Rattle.spool_pages.specs.View.{View}
use Rattle.spool_catalog.specs.Shows.{Shows}
use Rattle.spool_catalog.specs.declared.error.OpenFault.{OpenFault}
use Rattle.spool_catalog.specs.declared.error.OpenFault.TheVariants as opens
use Rattle.spool_image.specs.LeftOnly.{AllShow, IsSpool, LeftOrShows, SpoolLeft}
use Rattle.spool_image.specs.Opening.{OpensExactly, Unwritten}
use Rattle.spool_image.specs.declared.spool.Spool.{Spool}
use Rattle.upload_rules.specs.Answers.{Quiet}
use Rattle.upload_rules.specs.Store.{Store}
use Rattle.tus_session.specs.History.{State, beginning}
use Rattle.tus_session.specs.declared.connections.Connections as connections
use Rattle.gateway_engine.specs.Gateways.{disk_in, size_in}
use Rattle.gateway_engine.specs.Ran.{IsCounted}
use Rattle.gateway_engine.specs.declared.gateway.Gateway.{Gateway}
use Rattle.gateway_outside.specs.Failures.{fault_in}
use Rattle.gateway_outside.specs.Faults.{open_fault}
use Rattle.gateway_outside.specs.Openings.{StaysShut}
use Rattle.gateway_outside.specs.SpoolFiles.{Disks, Leaves, OnlyRead}
use Rattle.gateway_outside.specs.declared.failures.Failure.{Failure}
use Rattle.gateway_outside.specs.declared.faults.Fault.{Fault}
use Rattle.gateway_outside.specs.declared.faults.Fault.TheVariants as faults
use Rattle.gateway_outside.specs.declared.openings.Unopened.{Unopened}
use Rattle.gateway_up.specs.Addresses.{IsLocal}
use Rattle.gateway_up.specs.Listeners.{Listens}
use Rattle.gateway_up.specs.Sessions.{Session}
use Rattle.gateway_up.specs.Stops.{AnswersStop, EndsFor, disk_back}
use Rattle.gateway_up.specs.declared.listeners.ListenCall.{ListenCall}
use Rattle.gateway_up.specs.declared.stops.Stopped.{Stopped}

-- WHY IT DOESN'T BEGIN: no listener is given
abbrev pub IsUnheard : Fault → Type 0
IsUnheard fault = (fault ≡ faults.Stop stops.NoMemory) ⊎ (fault ≡ faults.Io)

-- or the output refused what is printed, which it counts, or memory did
abbrev pub IsUntold : ℕ → ℕ → Fault → Type 0
IsUntold refused refused' fault =
    (fault ≡ faults.Stop stops.NoMemory) ⊎ ((fault ≡ faults.Io) × IsCounted refused refused')

-- a listener wasn't given at this address, or it was and wasn't told
abbrev pub Unheard : List ListenCall → List ListenCall → SocketAddr → ℕ → ℕ → Failure → Type 0
Unheard asked asked' address refused refused' failure =
    (Listens asked asked' address false × IsUnheard (fault_in failure))
    ⊎ (Listens asked asked' address true × IsUntold refused refused' (fault_in failure))

-- HOW IT ENDS once it began: well, or for the disk alone
abbrev pub EndsAs : {D : Type 0} → Result (Unit {0}) DiskFault → Result D (D × Stopped) → Type 0
EndsAs (Ok u) (Ok d) = Unit {0}
EndsAs (Err fault) result = EndsFor result (λ told. told ≡ faults.Stop stops.DiskFault)
EndsAs (Ok u) (Err e) = ⊥

module _ {D B : Type 0} (disk : disks.Ghosts D) (c : connections.Ghosts (Gateway (Spool D disk) B)) where
  -- THE SPOOL ON A DISK WAS OPENED as these connections: what `Gateway::open` promises
  pub record Opens (d : D) (g : Gateway (Spool D disk) B) : Type 0 where
    pub size : disk.size (disk_in g) ≡ disk.size d
    pub represents : (n : ℕ) (m : Store) → IsSpool disk d n m → c.represents g true (beginning m (Some n))
    pub shows : (n : ℕ) (m : Store) → IsSpool disk d n m → AllShow disk (disk_in g) n m
    pub lasts : (n : ℕ) (m : Store) → IsSpool disk d n m → Lasts disk d (disk_in g) (LeftOrShows disk d n m)
    pub view : (v : View) × (m : Store) × Shows v m × c.represents g false (beginning m (Some v.blocks))
    pub exact : disk.honest d → OpensExactly (disk.size d) (disk.current d) None
    pub unwritten : disk.honest d → Unwritten disk d (disk_in g)
    pub counts : Counts ⊥ (disk.failures d) (disk.failures (disk_in g))

  -- THE DISK IS HANDED BACK at their end, with the uploads of their history
  pub record HandsBack (g : Gateway (Spool D disk) B) (d : D) : Type 0 where
    pub shows : (st : State) (n : ℕ) → c.represents g true st → st.world.blocks ≡ Some n
        → AllShow disk d n st.world.store
    pub quiet : Quiet (disk.moment (disk_in g)) (disk.moment d) (SpoolLeft disk (disk_in g) (size_in g))
        (SpoolLeft disk d (size_in g))
    pub counts : disk.failures d ≡ disk.failures (disk_in g)

-- a disk whose spool wasn't opened for this reason
pub record Refuses {D : Type 0} (disk : disks.Ghosts D) (d d' : D) (fault : OpenFault) : Type 0 where
  pub size : disk.size d' ≡ disk.size d
  pub exact : disk.honest d → OpensExactly (disk.size d) (disk.current d) (Some fault)
  pub lasts : (n : ℕ) (m : Store) → IsSpool disk d n m → Lasts disk d d' (LeftOrShows disk d n m)
  pub unwritten : disk.honest d → Unwritten disk d d'
  pub counts : Counts (fault ≡ opens.Stop stops.DiskFault) (disk.failures d) (disk.failures d')

-- BY WHAT WAS ASKED of listeners, of the clock and of the output, at this address, for so many connections and turns
module _ {D B S : Type 0} (disk : disks.Ghosts D) (c : connections.Ghosts (Gateway (Spool D disk) B))
    (remaining contents : S → Option (List ℕ)) (asked asked' : List ListenCall)
    (shown shown' : List (Option Duration)) (refused refused' : ℕ) (address : SocketAddr) (most turns : ℕ) where
  -- SERVING THEM didn't begin, or they were served. The disk is handed back
  pub data Serves (g : Gateway (Spool D disk) B) : Result D (D × Stopped) → Type 0 where
    unheard : (result : Result D (D × Stopped)) → Listens asked asked' address false → shown' ≡ shown
        → EndsFor result IsUnheard → HandsBack disk c g (disk_back result) → Serves g result
    untold : (result : Result D (D × Stopped)) → Listens asked asked' address true → shown' ≡ shown
        → EndsFor result (IsUntold refused refused') → HandsBack disk c g (disk_back result) → Serves g result
    served : (result : Result D (D × Stopped)) (now : Gateway (Spool D disk) B) (end : Result (Unit {0}) DiskFault)
        → Listens asked asked' address true → Session c remaining contents g now end shown shown' turns most
        → EndsAs end result → HandsBack disk c now (disk_back result) → Serves g result

  -- SERVING A DISK: its spool isn't opened, and nothing else is asked; or it is, and is served
  pub data ServesDisk (untouched : Type 0) (d : D) : Result D (D × Stopped) → Type 0 where
    unopened : (result : Result D (D × Stopped)) (fault : OpenFault) → untouched
        → Refuses disk d (disk_back result) fault → EndsFor result (λ told. told ≡ open_fault fault)
        → ServesDisk untouched d result
    opened : (result : Result D (D × Stopped)) (g : Gateway (Spool D disk) B) → Opens disk c d g → Serves g result
        → ServesDisk untouched d result

  module _ {T : Type 0} (untouched : Type 0) where
    -- and then the file was at most looked at
    pub record ServedIn (d : D) (result : Result T Failure) (d' : D) : Type 0 where
      pub run : Result D (D × Stopped)
      pub serves : ServesDisk untouched d run
      pub answers : AnswersStop run result
      pub reads : OnlyRead disk (disk_back run) d'

    -- WHAT A COMMAND THAT SERVES PROMISES of the file at a path: its spool was served, or the one call that was to open
    -- it failed, and nothing else was asked. The other files stay
    abbrev pub ServesAt : (Disks D → Type 0) → (Disks D → Type 0) → List Unopened → List Unopened → List ℕ
        → Result T Failure → Type 0
    ServesAt holds holds' shut shut' path result = (disks : Disks D) (d : D) → holds disks → disks path ≡ Some d
        → Leaves holds' disks path (λ d'.
        IsErrAnd result (λ failure. StaysShut shut shut' path d failure d' × untouched) ⊎ ServedIn d result d')

-- at a port of 127.0.0.1
module _ {D B S T : Type 0} (disk : disks.Ghosts D) (c : connections.Ghosts (Gateway (Spool D disk) B))
    (remaining contents : S → Option (List ℕ)) (asked asked' : List ListenCall)
    (shown shown' : List (Option Duration)) (refused refused' port most turns : ℕ) (untouched : Type 0)
    (holds holds' : Disks D → Type 0) (shut shut' : List Unopened) (path : List ℕ) (result : Result T Failure) where
  abbrev pub ServesLocal : Type 0
  ServesLocal = (address : SocketAddr) × IsLocal address port
      × ServesAt disk c remaining contents asked asked' shown shown' refused refused' address most turns untouched
      holds holds' shut shut' path result
