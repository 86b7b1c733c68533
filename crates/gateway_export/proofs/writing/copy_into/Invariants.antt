use Rattle.std.proofs.Common.{◌≡◌, ◌≤◌, ◌-◌, take, Bool}
use Rattle.common.specs.Given.{MoreReads}
use Rattle.upload_rules.specs.Answers.{Quiet}
use Rattle.upload_rules.specs.Reading.{text_at}
use Rattle.upload_rules.specs.Store.{upload_of}
use Rattle.upload_rules.specs.World.{World}
use Rattle.gateway_outside.specs.Files.{Files}
use Rattle.gateway_texts.specs.Copies.{AppendsOf}
use Rattle.gateway_export.specs.Folders.{StillLast}
use Rattle.gateway_export.proofs.writing.copy_into.Given as goal

abbrev pub invariant-loop-at : goal.invariant-loop-at
invariant-loop-at g l =
    (l.at ≤ l.len)
    × (g.U.Uploads.failures l.uploads ≡ g.U.Uploads.failures l.fn.uploads)
    × Quiet (g.U.Uploads.moment l.fn.uploads) (g.U.Uploads.moment l.uploads) (g.U.Uploads.left_only l.fn.uploads)
    (g.U.Uploads.left_only l.uploads)
    × ((sure : Bool) (w : World) → g.U.Uploads.represents l.fn.uploads sure w → g.U.Uploads.represents l.uploads sure w
    × AppendsOf sure (g.F.Folder.content l.fn.file) (g.F.Folder.content l.file)
    (take l.at (text_at w.store (upload_of w.store l.number))))
    × MoreReads (g.U.Uploads.reads l.fn.uploads) (g.U.Uploads.reads l.uploads)
    × ((files : Files) → g.F.Folder.holds l.fn.folder files → g.F.Folder.holds l.folder files)
    × StillLast (g.F.Folder.lasting l.fn.folder) (g.F.Folder.lasting l.folder)
    × (g.F.Folder.takes l.folder ≡ g.F.Folder.takes l.fn.folder)
    × ((sure : Bool) (w : World) → g.U.Uploads.represents l.fn.uploads sure w
    → g.F.Folder.refusals l.folder ≡ g.F.Folder.refusals l.fn.folder)
    × (g.F.Folder.unread l.folder ≡ g.F.Folder.unread l.fn.folder)

abbrev pub decreases-loop-at : goal.decreases-loop-at
decreases-loop-at g l = l.len - l.at
