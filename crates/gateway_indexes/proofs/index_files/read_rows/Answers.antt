use Rattle.std.proofs.Common.{get_or, map, rules, take, ℕ, List, [], Bor}
use Rattle.std.proofs.lemmas.Result.{err_from_is_err_and}
use Rattle.enc_index.specs.declared.kind.Kind.{Kind}
use Rattle.enc_index.specs.declared.kind.Kind.TheVariants.{Jis0208}
use Rattle.gateway_indexes.specs.IndexFiles.{named}
use Rattle.gateway_indexes.proofs.Reading.{no_memory_first, no_memory_more, read_more, read_none, rows_more}
use Rattle.gateway_indexes.proofs.index_files.read_rows.Goals as goal

abbrev other : Bor (List ℕ) × Kind
other = (record { ref_ptr = (0, 0); now = [] }, Jis0208)

pub loop-name-init : goal.loop-name-init
loop-name-init g c = record {
  read = read_none (g.R.IndexFolders.have c.args.folders.now) c.args.path.now
      (g.R.IndexFolders.calls c.args.folders.now) _ _ (search rules) (search rules);
  have = λ had is. is;
}

pub loop-name-preserved : goal.loop-name-preserved
loop-name-preserved g c =
    let rows = c.args.table.now in
    let i = c.loop-name.name-index in
    record {
      read = rw (rows_more rows i other c.loop-name-test.true)
          (read_more (g.R.IndexFolders.have c.args.folders.now) (g.R.IndexFolders.have c.loop-name.folders)
          c.args.path.now (map named (take i rows)) (named (get_or rows i other))
          (g.R.IndexFolders.calls c.args.folders.now) (g.R.IndexFolders.calls c.loop-name.folders)
          (g.R.IndexFolders.calls c.read_into.new.folders) c.loop-name.set c.read_into.new.set
          c.loop-name.files.items c.tell.new.files.items c.in_ok-found.found c.new-in-loop-name.result
          c.loop-name.invariant.have c.loop-name.invariant.read c.in_ok-found.ensures.read c.in_ok-tell.ensures
          c.new-in-loop-name.ensures.row c.new-in-loop-name.ensures.found);
      have = λ had is. c.read_into.ensures.have had (c.loop-name.invariant.have had is);
    }

pub returns-in_err-set-clause-refused : goal.returns-in_err-set-clause-refused
returns-in_err-set-clause-refused g c =
    let p = err_from_is_err_and c.from_residual.result c.from_residual.ensures.1 in
    rw p.1 (no_memory_first c.args.path.now (g.R.IndexFolders.calls c.args.folders.now) _ p.2)

pub returns-in_err-tell-clause-refused : goal.returns-in_err-tell-clause-refused
returns-in_err-tell-clause-refused g c =
    let p = err_from_is_err_and c.from_residual-in_err-tell.result c.from_residual-in_err-tell.ensures.1 in
    let rows = c.args.table.now in
    let i = c.loop-name.name-index in
    rw p.1 (no_memory_more (g.R.IndexFolders.have c.args.folders.now) (g.R.IndexFolders.have c.loop-name.folders)
    c.args.path.now (map named (take i rows)) (named (get_or rows i other)) (g.R.IndexFolders.calls c.args.folders.now)
    (g.R.IndexFolders.calls c.loop-name.folders) (g.R.IndexFolders.calls c.read_into.new.folders) c.loop-name.set
    c.read_into.new.set c.loop-name.files.items c.in_ok-found.found _ c.loop-name.invariant.read
    c.in_ok-found.ensures.read p.2)
