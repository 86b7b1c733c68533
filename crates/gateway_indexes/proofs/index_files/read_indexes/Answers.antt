use Rattle.std.proofs.Common.{◌∷◌, inl, inr}
use Rattle.gateway_outside.specs.declared.failures.Failure.{Failure}
use Rattle.gateway_indexes.specs.Folders.{folder_found}
use Rattle.gateway_indexes.specs.IndexFiles.{index_files}
use Rattle.gateway_indexes.specs.declared.index_files.IndexFiles.{IndexFiles}
use Rattle.gateway_indexes.proofs.Reading.{if_ok_more, read_since, rows_known, told_known}
use Rattle.gateway_indexes.proofs.index_files.read_indexes.Goals as goal

pub returns-in-Ok-clause-read : goal.returns-in-Ok-clause-read
unfolding index_files
returns-in-Ok-clause-read g c =
    if_ok_more {T = IndexFiles} {E = Failure} _ _ _ (rw c.in-Ok.ensures.found at c.read_rows.ensures.read) (λ read is.
    read_since (g.R.IndexFolders.have c.args.folders.now) (g.R.IndexFolders.have c.find.new.self) c.args.path.now
    index_files (folder_found c.args.path.now ∷ g.R.IndexFolders.calls c.args.folders.now)
    (g.R.IndexFolders.calls c.read_rows.new.folders) read.set read.files.items (λ had is. c.find.ensures.have had is) is)

pub returns-in-Ok-clause-set : goal.returns-in-Ok-clause-set
unfolding index_files
returns-in-Ok-clause-set g c had is =
    if_ok_more {T = IndexFiles} {E = Failure} _ _ _ c.read_rows.ensures.read (λ read so.
    rows_known (g.R.IndexFolders.have c.find.new.self) c.args.path.now index_files
    (g.R.IndexFolders.calls c.find.new.self) (g.R.IndexFolders.calls c.read_rows.new.folders) read.set read.files.items
    so had (c.find.ensures.have had is))

pub returns-in-Ok-clause-found : goal.returns-in-Ok-clause-found
unfolding index_files
returns-in-Ok-clause-found g c had is =
    if_ok_more {T = IndexFiles} {E = Failure} _ _ _ c.read_rows.ensures.read (λ read so.
    told_known (g.R.IndexFolders.have c.find.new.self) c.args.path.now index_files
    (g.R.IndexFolders.calls c.find.new.self) (g.R.IndexFolders.calls c.read_rows.new.folders) read.set read.files.items
    so had (c.find.ensures.have had is))

pub returns-in-Err-clause-refused : goal.returns-in-Err-clause-refused
returns-in-Err-clause-refused g c =
    inl (record { kind = _; call = c.in-Err.ensures.failed; fault_is = c.unread.ensures })
