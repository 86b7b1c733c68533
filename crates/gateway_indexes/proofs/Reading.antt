-- Index files that are read one after the other.
use Rattle.std.proofs.Common.{◌≡◌, ◌∙◌, ◌+◌, ◌++◌, ◌<◌, ◌⊎◌, ℕ, Bor, List, [], ◌∷◌, Option, ap, ap₂, get_or, inl, inr}
use Rattle.std.proofs.Common.{length, map, refl, sym, take}
use Rattle.std.proofs.Common.{IfOk, Result, Ok, Err}
use Rattle.std.specs.Prelude.{IfErr, reverse}
use Rattle.std.proofs.lemmas.List.{map-append, reverse-append, reverse-reverse, take_more}
use Rattle.common.specs.declared.stop.Stop.TheVariants.{NoMemory}
use Rattle.enc_model.specs.Indexes.{IndexSet, no_indexes}
use Rattle.enc_index.specs.declared.kind.Kind.{Kind}
use Rattle.gateway_outside.specs.Files.{Files}
use Rattle.gateway_outside.specs.declared.faults.Fault.{Fault}
use Rattle.gateway_outside.specs.declared.faults.Fault.TheVariants as faults
use Rattle.gateway_indexes.specs.Folders.{AreOf, Folders, Given, IsFileUnread, IsUnread, ReadsFile, ReadsRows, asked}
use Rattle.gateway_indexes.specs.Folders.{file_given, found_of, set_of}
use Rattle.gateway_indexes.specs.Found.{found_by, row_for, row_of}
use Rattle.gateway_indexes.specs.IndexFiles.{named, read_as, with_file}
use Rattle.gateway_indexes.specs.declared.folders.FolderCall.{FolderCall}
use Rattle.gateway_indexes.specs.declared.found.Found.{Found}
use Rattle.gateway_indexes.specs.declared.index_files.IndexFile.{IndexFile}

abbrev Row : Type 0
Row = List ℕ × Kind

-- one row more of a table
pub rows_more : (table : List (Bor (List ℕ) × Kind)) (i : ℕ) (d : Bor (List ℕ) × Kind) → i < length table
    → map named (take (i + 1) table) ≡ map named (take i table) ++ named (get_or table i d) ∷ []
rows_more table i d less =
    ap (map named) (take_more table i d less) ∙ map-append named (take i table) (get_or table i d ∷ [])

-- nothing was read
pub read_none : (have : Folders → Type 0) (path : List ℕ) (before : List FolderCall) (set : IndexSet)
    (files : List IndexFile) → set ≡ no_indexes → files ≡ [] → ReadsRows have path [] before before set files
unfolding asked set_of AreOf
read_none have path before set files unset untold = record {
  given = [];
  each = refl;
  calls = refl;
  set_is = unset;
  told = ap (map row_of) untold;
  found = ap (map (λ file. file.found)) untold;
  agree = λ folders had. tt;
}

-- ONE FILE MORE WAS READ, and told of
pub read_more : (have have' : Folders → Type 0) (path : List ℕ) (rows : List Row) (row : Row)
    (before after after' : List FolderCall) (set set' : IndexSet) (files files' : List IndexFile) (found : Found)
    (file : IndexFile) → ((folders : Folders) → have folders → have' folders)
    → ReadsRows have path rows before after set files → ReadsFile have' path row after after' set set' found
    → files' ≡ files ++ file ∷ [] → row_of file ≡ row_for row → file.found ≡ found
    → ReadsRows have path (rows ++ row ∷ []) before after' set' files'
unfolding asked set_of AreOf
read_more have have' path rows row before after after' set set' files files' found file still read one pushed told is =
    record {
      given = (row, one.content) ∷ read.given;
      each = ap (λ xs. row ∷ xs) read.each ∙ sym (reverse-append rows (row ∷ []));
      calls = one.call ∙ ap (λ calls. file_given path row.0 one.content ∷ calls) read.calls;
      set_is = one.set_is ∙ ap (λ s. with_file s row.1 one.content) read.set_is;
      told =
          ap (map row_of) pushed ∙ map-append row_of files (file ∷ [])
          ∙ ap₂ (λ xs x. xs ++ x ∷ []) read.told told ∙ sym (map-append row_for rows (row ∷ []));
      found =
          ap (map (λ file. file.found)) pushed ∙ map-append (λ file. file.found) files (file ∷ [])
          ∙ ap₂ (λ xs x. xs ++ x ∷ []) read.found (is ∙ one.found_is)
          ∙ sym (reverse-append (found_of (row, one.content) ∷ []) (map found_of read.given));
      agree = λ folders had. (one.agrees folders (still folders had), read.agree folders had);
    }

-- where more is known of the folders
pub read_since : (have have' : Folders → Type 0) (path : List ℕ) (rows : List Row) (before after : List FolderCall)
    (set : IndexSet) (files : List IndexFile) → ((folders : Folders) → have folders → have' folders)
    → ReadsRows have' path rows before after set files → ReadsRows have path rows before after set files
read_since have have' path rows before after set files still read = record {
  given = read.given;
  each = read.each;
  calls = read.calls;
  set_is = read.set_is;
  told = read.told;
  found = read.found;
  agree = λ folders had. read.agree folders (still folders had);
}

-- what holds of a result holds of one of which it says as much
pub if_ok_more : {T E : Type 0} (r : Result T E) (P Q : T → Type 0) → IfOk r P → ((t : T) → P t → Q t) → IfOk r Q
if_ok_more (Ok t) P Q is so = so t is
if_ok_more (Err e) P Q is so = tt

pub if_err_more : {T E : Type 0} (r : Result T E) (P Q : E → Type 0) → IfErr r P → ((e : E) → P e → Q e) → IfErr r Q
if_err_more (Ok t) P Q is so = tt
if_err_more (Err e) P Q is so = so e is

-- why one of them isn't, after these were
pub unread_at : (have : Folders → Type 0) (path : List ℕ) (rows : List Row) (row : Row)
    (before after after' : List FolderCall) (set : IndexSet) (files : List IndexFile) (fault : Fault)
    → ReadsRows have path rows before after set files → IsFileUnread path row after after' fault
    → IsUnread path before after' fault
unread_at have path rows row before after after' set files fault read why = record {
  given = read.given;
  why = inl (row, rw read.calls at why);
}

-- or memory is refused once these were read
pub no_memory_after : (path : List ℕ) (given : List Given) (before after : List FolderCall) (fault : Fault)
    → after ≡ asked path given before → fault ≡ faults.Stop NoMemory → IsUnread path before after fault
no_memory_after path given before after fault calls is = record { given = given; why = inr (calls, is) }

pub no_memory_first : (path : List ℕ) (before : List FolderCall) (fault : Fault) → fault ≡ faults.Stop NoMemory
    → IsUnread path before before fault
unfolding asked
no_memory_first path before fault is = no_memory_after path [] before before fault refl is

-- also once one more was
pub no_memory_more : (have have' : Folders → Type 0) (path : List ℕ) (rows : List Row) (row : Row)
    (before after after' : List FolderCall) (set set' : IndexSet) (files : List IndexFile) (found : Found)
    (fault : Fault) → ReadsRows have path rows before after set files
    → ReadsFile have' path row after after' set set' found → fault ≡ faults.Stop NoMemory
    → IsUnread path before after' fault
unfolding asked
no_memory_more have have' path rows row before after after' set set' files found fault read one is =
    no_memory_after path ((row, one.content) ∷ read.given) before after' fault
    (one.call ∙ ap (λ calls. file_given path row.0 one.content ∷ calls) read.calls) is

-- THE FILES OF A FOLDER THAT IS KNOWN gave what its files have
read_as_more : (files : Files) (rows : List Row) (row : Row) (set : IndexSet)
    → read_as (rows ++ row ∷ []) files set ≡ with_file (read_as rows files set) row.1 (files row.0)
unfolding read_as
read_as_more files [] row set = refl
read_as_more files (first ∷ rows) row set = read_as_more files rows row (with_file set first.1 (files first.0))

pub set_known : (files : Files) (given : List Given) → AreOf files given
    → set_of given ≡ read_as (reverse (map (λ g. g.0) given)) files no_indexes
unfolding set_of read_as AreOf
set_known files [] same = refl
set_known files (g ∷ given) same =
    let rest = map (λ g. g.0) given in
    ap₂ (λ s content. with_file s g.0.1 content) (set_known files given same.1) same.0
    ∙ sym (read_as_more files (reverse rest) g.0 no_indexes)
    ∙ ap (λ rows. read_as rows files no_indexes) (sym (reverse-append (g.0 ∷ []) rest))

pub found_known : (files : Files) (given : List Given) → AreOf files given
    → reverse (map found_of given) ≡ map (found_by files) (reverse (map (λ g. g.0) given))
unfolding AreOf
found_known files [] same = refl
found_known files (g ∷ given) same =
    let rest = map (λ g. g.0) given in
    reverse-append (found_of g ∷ []) (map found_of given)
    ∙ ap₂ (λ xs content. xs ++ found_of (g.0, content) ∷ []) (found_known files given same.1) same.0
    ∙ sym (ap (map (found_by files)) (reverse-append (g.0 ∷ []) rest)
    ∙ map-append (found_by files) (reverse rest) (g.0 ∷ []))

module _ (have : Folders → Type 0) (path : List ℕ) (rows : List Row) (before after : List FolderCall) (set : IndexSet)
    (files : List IndexFile) (read : ReadsRows have path rows before after set files) (folders : Folders)
    (had : have folders) where
  back : reverse (map (λ g. g.0) read.given) ≡ rows
  back = ap reverse read.each ∙ reverse-reverse rows

  pub rows_known : set ≡ read_as rows (folders path) no_indexes
  rows_known =
      read.set_is ∙ set_known (folders path) read.given (read.agree folders had)
      ∙ ap (λ rows. read_as rows (folders path) no_indexes) back

  pub told_known : map (λ file. file.found) files ≡ map (found_by (folders path)) rows
  told_known =
      read.found ∙ found_known (folders path) read.given (read.agree folders had)
      ∙ ap (map (found_by (folders path))) back
