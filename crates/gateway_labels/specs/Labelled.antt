-- What `labels` prints of its input, by the index files of a folder.
use Rattle.std.specs.Prelude.{◌≡◌, ◌⊎◌, ◌≤◌, ◌-◌, ◌^◌, ℕ, Bool, true, false, List, Option, Result, Ok, Err, IfErr, IfOk}
use Rattle.std.specs.Prelude.{IsErrAnd, OnOk, map, if◌then◌else◌}
use Rattle.std.specs.Io.KnownBytes.{Appends}
use Rattle.std.specs.List.{filter}
use Rattle.std.specs.List.Sorted.{IsPermutation}
use Rattle.common.specs.Counts.{Counts}
use Rattle.common.specs.declared.stop.Stop.TheVariants.{NoMemory}
use Rattle.enc_model.specs.Indexes.{IndexSet, offers, tables}
use Rattle.gateway_outside.specs.Failures.{fault_in}
use Rattle.gateway_outside.specs.declared.failures.Failure.{Failure}
use Rattle.gateway_outside.specs.declared.faults.Fault.{Fault}
use Rattle.gateway_outside.specs.declared.faults.Fault.TheVariants.{Io, Stop}
use Rattle.gateway_indexes.specs.Folders.{Folders, IsFolderUnread, ReadsFolder}
use Rattle.gateway_indexes.specs.declared.folders.FolderCall.{FolderCall}
use Rattle.gateway_indexes.specs.declared.index_files.IndexFile.{IndexFile}
use Rattle.gateway_labels.specs.Labels.{AreLabels, all_encodings}
use Rattle.gateway_labels.specs.Lines.{label_lines}
use Rattle.gateway_labels.specs.Ordered.{IsInOrder}
use Rattle.gateway_labels.specs.Reasons.{IsRefusal}
use Rattle.gateway_labels.specs.declared.reading.Labels.{Labels}
use Rattle.gateway_labels.specs.declared.unread.Unread.{Unread}
use Rattle.gateway_labels.specs.declared.unread.Unread.TheVariants as unreads

-- how many bytes are read at most: all, or a MiB
abbrev pub most_for : Bool → ℕ
most_for all = if all then 2 ^ 64 - 1 else 1048576

-- why there are no labels, as the program reports it
abbrev pub fault_of : Unread → Fault
fault_of unreads.NoMemory = Stop NoMemory
fault_of unreads.Input = Io
fault_of unreads.NoText = Io

-- THE INPUT WAS READ, and it is told what each encoding that the set offers makes of it: all that `labels_on` promises
pub record LabelsOn (set : IndexSet) (left left' : Option (List ℕ)) (limit : ℕ) (answer : Result Labels Unread) :
    Type 0
  where
    pub labels : IfOk answer (AreLabels (tables set) left left')
    pub offered : IfOk answer (λ labels. IsPermutation (filter (offers set) all_encodings)
        (map (λ choice. choice.encoding) labels.choices.items))
    pub order : IfOk answer (λ labels. IsInOrder labels.choices.items)
    pub most : IfOk answer (λ labels. labels.bytes ≤ limit)
    pub part : IfOk answer (λ labels. labels.is_whole ≡ false → labels.bytes ≡ limit)
    pub refused : IfErr answer IsRefusal

-- what is printed of labels: their lines. What is in lines of JSON is only tested
abbrev pub Prints : Bool → Option (List ℕ) → Option (List ℕ) → Labels → Type 0
Prints true before after labels = (lines : List ℕ) × Appends before after lines
Prints false before after labels = Appends before after (label_lines labels.choices.items)

-- why nothing is: the output refused, or memory was before it was called
abbrev pub IsUnprinted : Option (List ℕ) → Option (List ℕ) → Fault → Type 0
IsUnprinted before after fault = (fault ≡ Io) ⊎ ((fault ≡ Stop NoMemory) × (after ≡ before))

-- what is answered
abbrev pub AnswersLabels : Bool → Result Labels Unread → Option (List ℕ) → Option (List ℕ)
    → Result (Unit {0}) Failure → Type 0
AnswersLabels json (Ok labels) before after result =
    OnOk result (Prints json before after labels)
    × IfErr result (λ failure. IsUnprinted before after (fault_in failure))
AnswersLabels json (Err unread) before after result =
    IsErrAnd result (λ failure. fault_in failure ≡ fault_of unread) × (after ≡ before)

-- THE LABELS OF THE INPUT were printed, by these indexes, or there is a reason
pub record LabelsBy (set : IndexSet) (left left' before after : Option (List ℕ)) (refused refused' : ℕ)
    (result : Result (Unit {0}) Failure) (all json : Bool) : Type 0
  where
    pub answer : Result Labels Unread
    pub on : LabelsOn set left left' (most_for all) answer
    pub answers : AnswersLabels json answer before after result
    pub io : Counts (IsErrAnd result (λ failure. fault_in failure ≡ Io)) refused refused'

-- by those of a folder
pub record LabelsIn (have : Folders → Type 0) (asked asked' : List FolderCall) (folder : List ℕ)
    (left left' before after : Option (List ℕ)) (refused refused' : ℕ) (result : Result (Unit {0}) Failure)
    (all json : Bool) : Type 0
  where
    pub set : IndexSet
    pub files : List IndexFile
    pub read : ReadsFolder have folder asked asked' set files
    pub by : LabelsBy set left left' before after refused refused' result all json

-- WHAT THE COMMAND PROMISES of the index files of a folder, the input and the output
module _ (have : Folders → Type 0) (asked asked' : List FolderCall) (folder : List ℕ)
    (left left' before after : Option (List ℕ)) (refused refused' : ℕ) (Untouched : Type 0)
    (result : Result (Unit {0}) Failure) where
  abbrev pub LabelsAt : Bool → Bool → Type 0
  LabelsAt all json =
      (Untouched × IsErrAnd result (λ failure. IsFolderUnread folder asked asked' (fault_in failure)))
      ⊎ LabelsIn have asked asked' folder left left' before after refused refused' result all json
