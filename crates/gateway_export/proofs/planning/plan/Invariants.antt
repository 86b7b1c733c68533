use Rattle.std.proofs.Common.{◌≡◌, ◌++◌, flat_map, map, Bool}
use Rattle.upload_rules.specs.World.{World}
use Rattle.gateway_outside.specs.Files.{Files}
use Rattle.gateway_outside.specs.InOrder.{IsInOrder}
use Rattle.gateway_outside.specs.Above.{after}
use Rattle.gateway_export.specs.Planning.{job_in, jobs_of}
use Rattle.gateway_export.proofs.Planned.{jobs_one}
use Rattle.gateway_export.proofs.planning.plan.Given as goal

abbrev pub invariant-loop : goal.invariant-loop
invariant-loop g l =
    (sure : Bool) (w : World) → g.U.Uploads.represents l.fn.uploads sure w → IsInOrder w.store → (files : Files)
    → g.F.Folder.holds l.fn.folder files
    → map (job_in (g.F.Folder.takes l.fn.folder)) l.jobs.items
    ++ flat_map (jobs_one (g.F.Folder.takes l.fn.folder) l.all) (after l.number w.store.uploads)
    ≡ jobs_of (g.F.Folder.takes l.fn.folder) l.all w.store
