-- WHAT EACH ORDER DOES to the files and streams outside, by what they hold before and after.
use Rattle.std.specs.Prelude.{◌≡◌, ◌+◌, ℕ, List, Option, Result, IsErrAnd}
use Rattle.std.specs.declared.time.Duration.{Duration}
use Rattle.common.specs.Counts.{Counts}
use Rattle.spool_disk.specs.declared.disk.Disk as disks
use Rattle.spool_image.specs.declared.spool.Spool.{Spool}
use Rattle.tus_session.specs.declared.connections.Connections as connections
use Rattle.gateway_engine.specs.Ran.{CountsEither}
use Rattle.gateway_engine.specs.declared.gateway.Gateway.{Gateway}
use Rattle.gateway_orders.specs.declared.orders.Order.{Order}
use Rattle.gateway_orders.specs.declared.orders.Order.TheVariants as orders
use Rattle.gateway_orders.specs.declared.orders.Order.TheVariants.{Delete, DeleteIncomplete, Export, Format}
use Rattle.gateway_orders.specs.declared.orders.Order.TheVariants.{Labels, Raise, Script, Serve, Text, Up, Upgrade}
use Rattle.gateway_outside.specs.Failures.{fault_in}
use Rattle.gateway_outside.specs.SpoolFiles.{Disks}
use Rattle.gateway_outside.specs.declared.failures.Failure.{Failure}
use Rattle.gateway_outside.specs.declared.faults.Fault.TheVariants.{Io}
use Rattle.gateway_outside.specs.declared.openings.Unopened.{Unopened}
use Rattle.gateway_indexes.specs.Folders.{Folders}
use Rattle.gateway_indexes.specs.declared.folders.FolderCall.{FolderCall}
use Rattle.gateway_format.specs.Formatting.{FormatsAt}
use Rattle.gateway_format.specs.Raising.{RaisesAt}
use Rattle.gateway_format.specs.Upgrading.{UpgradesAt}
use Rattle.gateway_list.specs.Listed.{JsonAt, ListsAt}
use Rattle.gateway_delete.specs.Deleted.{DeletesAt, FindsAt}
use Rattle.gateway_export.specs.Command.{ExportsAt}
use Rattle.gateway_export.specs.declared.folders.Folder as folders
use Rattle.gateway_export.specs.declared.places.FolderSearch.{FolderSearch}
use Rattle.gateway_run.specs.Scripts.{IsIo, ScriptsAt}
use Rattle.gateway_text.specs.Texts.{TextsAt}
use Rattle.gateway_labels.specs.Labelled.{LabelsAt}
use Rattle.gateway_up.specs.Serving.{ServesAt, ServesLocal}
use Rattle.gateway_up.specs.declared.listeners.ListenCall.{ListenCall}

-- `Io` is answered exactly where the output refused
abbrev pub IoByOutput : {T : Type 0} → ℕ → ℕ → Result T Failure → Type 0
IoByOutput refused refused' result = Counts (IsErrAnd result (λ failure. fault_in failure ≡ Io)) refused refused'

module _ {D F B M G S : Type 0} (disk : disks.Ghosts D) (folder : folders.Ghosts F B) (memory : disks.Ghosts M)
    (c : connections.Ghosts (Gateway (Spool D disk) G)) (remaining contents : S → Option (List ℕ))
    (holds holds' : Disks D → Type 0) (shut shut' : List Unopened) (have : Folders → Type 0)
    (asked asked' : List FolderCall) (stand stand' : Disks F → Type 0) (searches searches' : List FolderSearch)
    (listens listens' : List ListenCall) (shown shown' : List (Option Duration)) (left left' : Option (List ℕ))
    (unread unread' : ℕ) (before after : Option (List ℕ)) (refused refused' : ℕ) (script : Option (List ℕ))
    (unscripted unscripted' : ℕ) (written written' : Option (List ℕ)) (unwritten unwritten' : ℕ)
    (Unasked Unexported Untouched Unserved : Type 0) (result : Result (Unit {0}) Failure) where
  abbrev pub Obeys : Order → Type 0
  Obeys (Format spool blocks indexes overwrite standard first) =
      FormatsAt disk holds holds' have asked asked' spool.now before after result blocks overwrite standard first
      indexes.now
  Obeys (orders.List spool long) =
      ListsAt disk holds holds' shut shut' spool.now before after result long × IoByOutput refused refused' result
  Obeys (orders.Json spool) =
      JsonAt disk holds holds' shut shut' spool.now before after result × IoByOutput refused refused' result
  Obeys (Delete spool numbers) = DeletesAt disk holds holds' shut shut' spool.now before after result numbers.items
      × IoByOutput refused refused' result
  Obeys (DeleteIncomplete spool but sure) =
      FindsAt disk holds holds' shut shut' spool.now before after result but.items sure
      × IoByOutput refused refused' result
  Obeys (Upgrade spool) =
      UpgradesAt disk holds holds' shut shut' spool.now before after result × IoByOutput refused refused' result
  Obeys (Raise spool number) =
      RaisesAt disk holds holds' shut shut' spool.now before after result number × IoByOutput refused refused' result
  Obeys (Text from to mode indexes strict) =
      TextsAt have asked asked' indexes.now left left' before after (unread + refused) (unread' + refused') Untouched
      result from.now to.now mode.now strict
  Obeys (Labels indexes all json) =
      LabelsAt have asked asked' indexes.now left left' before after (unread + refused) (unread' + refused') Untouched
      result all json
  Obeys (Script spool) =
      ScriptsAt disk holds holds' shut shut' spool.now result script written written' Untouched memory Unasked
      × CountsEither (IsIo result) unscripted unscripted' unwritten unwritten'
  Obeys (Serve service) =
      ServesLocal disk c remaining contents listens listens' shown shown' refused refused' service.port
      service.connections service.turns Unserved holds holds' shut shut' service.spool.now result
  Obeys (Up spool listen quiet log) =
      ServesAt disk c remaining contents listens listens' shown shown' refused refused' listen 18446744073709551615
      18446744073709551615 Unserved holds holds' shut shut' spool.now result
  Obeys (Export spool path all) =
      ExportsAt disk folder holds holds' shut shut' spool.now before after refused refused' result all stand stand'
      searches searches' path.now Unexported
