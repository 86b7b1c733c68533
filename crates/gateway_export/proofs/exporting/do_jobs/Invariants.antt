use Rattle.std.proofs.Common.{◌≡◌, map, take, Bool, true, false}
use Rattle.common.specs.Counts.{Counts}
use Rattle.common.specs.Given.{MoreReads}
use Rattle.upload_rules.specs.Answers.{Quiet}
use Rattle.upload_rules.specs.World.{World}
use Rattle.gateway_outside.specs.Files.{Files}
use Rattle.gateway_export.specs.Exporting.{AllLast, ExportsAs, TellsEach, TellsOf, some_amiss}
use Rattle.gateway_export.specs.Exporting.{some_differ}
use Rattle.gateway_export.specs.Folders.{HoldsAll, StillLast}
use Rattle.gateway_export.specs.Planning.{job_in}
use Rattle.gateway_export.proofs.exporting.do_jobs.Given as goal

abbrev pub invariant-loop-job : goal.invariant-loop-job
invariant-loop-job g l =
    (g.U.Uploads.failures l.uploads ≡ g.U.Uploads.failures l.fn.uploads)
    × Quiet (g.U.Uploads.moment l.fn.uploads) (g.U.Uploads.moment l.uploads) (g.U.Uploads.left_only l.fn.uploads)
    (g.U.Uploads.left_only l.uploads)
    × ((sure : Bool) (w : World) → g.U.Uploads.represents l.fn.uploads sure w → g.U.Uploads.represents l.uploads sure w)
    × ((sure : Bool) (w : World) → g.U.Uploads.represents l.fn.uploads sure w → (files : Files)
    → g.F.Folder.holds l.fn.folder files
    → ExportsAs sure (some_amiss l.done) (g.F.Folder.holds l.folder) w.store
    (map (job_in (g.F.Folder.takes l.fn.folder)) (take l.job-index l.jobs)) files)
    × ((w : World) → g.U.Uploads.represents l.fn.uploads true w → (files : Files)
    → g.F.Folder.holds l.fn.folder files
    → TellsOf l.done.differs l.done.unread (some_differ w.store files
    (map (job_in (g.F.Folder.takes l.fn.folder)) (take l.job-index l.jobs))))
    × ((files : Files) → g.F.Folder.holds l.fn.folder files → some_amiss l.done ≡ false
    → AllLast (g.F.Folder.lasting l.folder) (map (job_in (g.F.Folder.takes l.fn.folder)) (take l.job-index l.jobs)))
    × StillLast (g.F.Folder.lasting l.fn.folder) (g.F.Folder.lasting l.folder)
    × ((files : Files) → g.F.Folder.holds l.fn.folder files → HoldsAll (g.F.Folder.holds l.folder) files)
    × (g.F.Folder.takes l.folder ≡ g.F.Folder.takes l.fn.folder)
    × MoreReads (g.U.Uploads.reads l.fn.uploads) (g.U.Uploads.reads l.uploads)
    × ((sure : Bool) (w : World) → g.U.Uploads.represents l.fn.uploads sure w
    → (g.W.Output.refusals l.writer ≡ g.W.Output.refusals l.fn.writer)
    × (g.F.Folder.refusals l.folder ≡ g.F.Folder.refusals l.fn.folder))
    × Counts (l.done.unread ≡ true) (g.F.Folder.unread l.fn.folder) (g.F.Folder.unread l.folder)
    × ((w : World) → g.U.Uploads.represents l.fn.uploads true w → (files : Files)
    → g.F.Folder.holds l.fn.folder files
    → TellsEach w.store files (map (job_in (g.F.Folder.takes l.fn.folder)) (take l.job-index l.jobs))
    (g.W.Output.contents l.fn.writer) (g.W.Output.contents l.writer) l.done.exported l.done.there)
