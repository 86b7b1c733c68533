-- What a gateway represents.
use Rattle.std.specs.Prelude.{◌≡◌, ℕ, Bool, false, Result, Ok, Err}
use Rattle.spool_disk.specs.declared.disk.Disk as disks
use Rattle.spool_image.specs.Spool.{disk_of, block_count_of}
use Rattle.spool_catalog.specs.declared.error.OpenFault.{OpenFault}
use Rattle.spool_image.specs.declared.spool.Spool.{Spool}
use Rattle.upload_rules.specs.declared.uploads.Uploads.{Ghosts}
use Rattle.tus_session.specs.History.{State}
use Rattle.tus_session.specs.Places.{links_of}
use Rattle.tus_session.specs.Represents.{SessionRepresents}
use Rattle.tus_session.specs.declared.connections.Connections as connections
use Rattle.gateway_engine.specs.declared.gateway.Gateway.{Gateway}

-- the uploads that it has
abbrev pub store_of : {U B : Type 0} → Gateway U B → U
store_of g = g.store

-- whether the disk failed at a call of its session
abbrev pub is_down : {U B : Type 0} → Gateway U B → Bool
is_down g = g.down

-- its session and its store are where the history is, and it isn't down
pub record GatewayRepresents {U B : Type 0} (u : Ghosts U B) (g : Gateway U B) (sure : Bool) (st : State) : Type 0 where
  pub session : SessionRepresents u sure (links_of g.session) g.store st
  pub up : is_down g ≡ false

-- a gateway as connections
abbrev pub as_connections : {U B : Type 0} → Ghosts U B → connections.Ghosts (Gateway U B)
as_connections u = record {
  represents = λ g sure st. GatewayRepresents u g sure st;
  moment = λ g. u.moment (store_of g);
  left_only = λ g blocks t ms. u.left_only (store_of g) blocks t ms;
  failures = λ g. u.failures (store_of g);
  down = λ g. is_down g;
}

-- OVER A SPOOL: the disk that it is on
abbrev pub disk_in : {D B : Type 0} {disk : disks.Ghosts D} → Gateway (Spool D disk) B → D
disk_in g = disk_of (store_of g)

-- how many text blocks the spool has
abbrev pub size_in : {D B : Type 0} {disk : disks.Ghosts D} → Gateway (Spool D disk) B → ℕ
size_in g = block_count_of (store_of g)

-- the disk, opened or handed back
abbrev pub gateway_disk_after : {D B : Type 0} {disk : disks.Ghosts D}
    → Result (Gateway (Spool D disk) B) (D × OpenFault) → D
gateway_disk_after (Ok g) = disk_in g
gateway_disk_after (Err e) = e.0
