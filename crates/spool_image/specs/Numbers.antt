-- Every number of a spool's uploads is below the next one.
use Rattle.std.specs.Prelude.{◌≡◌, ◌<◌, ℕ, Bool, List, Option, Some}
use Rattle.std.proofs.Common.{arith}
use Rattle.spool_disk.specs.declared.disk.Disk.{Ghosts}
use Rattle.spool_drafts.specs.declared.draft.SpoolDraft.{SpoolDraft}
use Rattle.spool_kept.specs.Drafting.{StandsFor}
use Rattle.spool_catalog.specs.Holding.{Holding}
use Rattle.upload_rules.specs.Store.{Upload, upload_of}
use Rattle.upload_rules.specs.World.{World}

-- The number of each upload is below the next one.
pub spool_upload_below : {D : Type 0} {disk : Ghosts D} {sure : Bool} (d : D) (h : Holding)
    (drafts : List (Option SpoolDraft)) (w : World) (number : ℕ) (u : Upload) → StandsFor sure disk d h drafts w
    → upload_of w.store number ≡ Some u → number < w.store.next
spool_upload_below d h drafts w number u represents there =
    let shows = represents.stored.shows in
    let slot = shows.all number u there in
    let less = (shows.valid.records slot.slot slot.used slot.there).below in
    let is = slot.number in
    let next = shows.next in
    omega (arith, less, is, next)
