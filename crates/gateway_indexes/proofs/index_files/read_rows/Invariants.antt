use Rattle.std.proofs.Common.{map, take}
use Rattle.gateway_indexes.specs.Folders.{Folders, ReadsRows}
use Rattle.gateway_indexes.specs.IndexFiles.{named}
use Rattle.gateway_indexes.proofs.index_files.read_rows.Given as goal

abbrev pub invariant-loop-name : goal.invariant-loop-name
invariant-loop-name g l = record {
  read : ReadsRows (g.R.IndexFolders.have l.fn.folders) l.fn.path (map named (take l.name-index l.table))
      (g.R.IndexFolders.calls l.fn.folders) (g.R.IndexFolders.calls l.folders) l.set l.files.items;
  have : (had : Folders) → g.R.IndexFolders.have l.fn.folders had → g.R.IndexFolders.have l.folders had;
}
