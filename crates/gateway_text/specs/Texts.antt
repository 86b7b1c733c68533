-- What `text` makes of its input, by the index files of a folder.
use Rattle.std.specs.Prelude.{◌≡◌, ◌⊎◌, ℕ, Bool, true, false, List, Option, None, Some, Result, Ok, Err, IfErr}
use Rattle.std.specs.Prelude.{IsErrAnd, IsErrOf, IsOk, OnOk}
use Rattle.std.specs.Io.KnownBytes.{IsAtEnd}
use Rattle.common.specs.Counts.{Counts}
use Rattle.enc_model.specs.Encode.{Tables}
use Rattle.enc_model.specs.Indexes.{IndexSet, offers, tables}
use Rattle.enc_labels.specs.Labels.{encoding_of}
use Rattle.tus_request.specs.Metadata.{Choice, choice_with, mode_of}
use Rattle.gateway_outside.specs.Failures.{fault_in}
use Rattle.gateway_outside.specs.Openings.{EndsWellBut}
use Rattle.gateway_outside.specs.declared.failures.Failure.{Failure}
use Rattle.gateway_outside.specs.declared.faults.Fault.{Fault}
use Rattle.gateway_outside.specs.declared.faults.Fault.TheVariants.{BadLabel, Io, Lost}
use Rattle.gateway_indexes.specs.Folders.{Folders, IsFolderUnread, ReadsFolder}
use Rattle.gateway_indexes.specs.declared.folders.FolderCall.{FolderCall}
use Rattle.gateway_indexes.specs.declared.index_files.IndexFile.{IndexFile}
use Rattle.gateway_text.specs.Transcoding.{IsConverted, IsTextFault, choice_in}
use Rattle.gateway_text.specs.declared.transcoding.Conversion.{Conversion}

-- the set has the indexes that both encodings need
abbrev pub Offers : IndexSet → Conversion → Type 0
Offers set c = (offers set c.from ≡ true) × (offers set c.to ≡ true)

-- what labels and a mode choose, if all are known
abbrev pub chosen_by : List ℕ → List ℕ → List ℕ → Option Choice
chosen_by from to mode = choice_with (encoding_of from) (encoding_of to) (mode_of mode)

-- what is answered of a text: that it has U+FFFD only where it may have none
abbrev pub AnswersText : Bool → Result (Unit {0}) Fault → Result (Unit {0}) Failure → Type 0
AnswersText strict (Ok t) result = EndsWellBut result Lost × (strict ≡ false → IsOk result)
AnswersText strict (Err fault) result = IsErrAnd result (λ failure. fault_in failure ≡ fault)

-- THE TEXT OF THE INPUT was written, all of it, or as far as a fault
pub record TextsBy (t : Tables) (c : Conversion) (left left' before after : Option (List ℕ)) (refused refused' : ℕ)
    (result : Result (Unit {0}) Failure) (strict : Bool) : Type 0
  where
    pub answer : Result (Unit {0}) Fault
    pub stored : OnOk answer (IsConverted t c left before after)
    pub whole : OnOk answer (IsAtEnd left')
    pub fault : IfErr answer IsTextFault
    pub io : Counts (IsErrOf answer Io) refused refused'
    pub answers : AnswersText strict answer result

-- by the indexes of a folder, which has those that it needs
pub record TextsIn (have : Folders → Type 0) (asked asked' : List FolderCall) (folder : List ℕ)
    (left left' before after : Option (List ℕ)) (refused refused' : ℕ) (result : Result (Unit {0}) Failure)
    (chosen : Option Choice) (strict : Bool) : Type 0
  where
    pub set : IndexSet
    pub files : List IndexFile
    pub read : ReadsFolder have folder asked asked' set files
    pub conversion : Conversion
    pub choice : chosen ≡ Some (choice_in conversion)
    pub offered : Offers set conversion
    pub texts : TextsBy (tables set) conversion left left' before after refused refused' result strict

-- the folder lacks an index file
pub record IndexLacks (have : Folders → Type 0) (asked asked' : List FolderCall) (folder : List ℕ)
    (result : Result (Unit {0}) Failure) (chosen : Option Choice) : Type 0
  where
    pub set : IndexSet
    pub files : List IndexFile
    pub read : ReadsFolder have folder asked asked' set files
    pub conversion : Conversion
    pub choice : chosen ≡ Some (choice_in conversion)
    pub lacks : Offers set conversion → ⊥
    pub refused : IsErrAnd result (λ failure. fault_in failure ≡ BadLabel)

-- WHY NOTHING IS READ of the input: a label or the mode isn't known, the index files can't be read, or one is missing
abbrev pub TextUnread : (Folders → Type 0) → List FolderCall → List FolderCall → List ℕ → Result (Unit {0}) Failure
    → Option Choice → Type 0
TextUnread have asked asked' folder result chosen =
    ((chosen ≡ None) × (asked' ≡ asked) × IsErrAnd result (λ failure. fault_in failure ≡ BadLabel))
    ⊎ IsErrAnd result (λ failure. IsFolderUnread folder asked asked' (fault_in failure))
    ⊎ IndexLacks have asked asked' folder result chosen

-- WHAT THE COMMAND PROMISES of the index files of a folder, the input and the output
module _ (have : Folders → Type 0) (asked asked' : List FolderCall) (folder : List ℕ)
    (left left' before after : Option (List ℕ)) (refused refused' : ℕ) (Untouched : Type 0)
    (result : Result (Unit {0}) Failure) where
  abbrev pub TextsAt : List ℕ → List ℕ → List ℕ → Bool → Type 0
  TextsAt from to mode strict =
      (Untouched × TextUnread have asked asked' folder result (chosen_by from to mode))
      ⊎ TextsIn have asked asked' folder left left' before after refused refused' result (chosen_by from to mode) strict
