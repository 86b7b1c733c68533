-- What a folder's calls leave of its files.
use Rattle.std.specs.Prelude.{◌≡◌, ◌⊎◌, Bool, true, false, List, Option, None, Some, ℕ, bytes_eq, if◌then◌else◌}
use Rattle.common.specs.declared.stop.Stop.TheVariants.{NoMemory}
use Rattle.gateway_outside.specs.Files.{Files}
use Rattle.gateway_outside.specs.declared.faults.Fault.{Fault}
use Rattle.gateway_outside.specs.declared.faults.Fault.TheVariants.{Io, Stop}
use Rattle.gateway_export.specs.declared.folders.FolderError.{FolderError}
use Rattle.gateway_export.specs.declared.folders.FolderError.TheVariants as errors

-- with these bytes under this name, and all else as it was
abbrev pub with_file : Files → List ℕ → List ℕ → Files
with_file files name bytes = λ other. if bytes_eq other name then Some bytes else files other

-- with a file more, where there is none of its name
abbrev pub new_file : Option (List ℕ) → Files → List ℕ → List ℕ → Files
new_file (Some there) files name bytes = files
new_file None files name bytes = with_file files name bytes

-- an end of a file that failed: these files are held, or those, where it may have the name
abbrev pub HoldsEither : Bool → (Files → Type 0) → Files → Files → Type 0
HoldsEither taken holds these those = holds these ⊎ ((taken ≡ true) × holds those)

-- a file that was ended: it has the name, which none had; or none may have it, and nothing of it is there
abbrev pub EndsAs : Bool → (Files → Type 0) → Files → List ℕ → List ℕ → Type 0
EndsAs true holds files name bytes = (files name ≡ None) × holds (with_file files name bytes)
EndsAs false holds files name bytes = holds files

-- each file that was there is there still, with the same content
abbrev pub PreservesFiles : Files → Files → Type 0
PreservesFiles files files' = (name bytes : List ℕ) → files name ≡ Some bytes → files' name ≡ Some bytes

-- some files are held, and among them all of these
pub record HoldsAll (holds : Files → Type 0) (files : Files) : Type 0 where
  pub now : Files
  pub held : holds now
  pub preserves : PreservesFiles files now

-- what outlasts a crash still does
abbrev pub StillLast : (List ℕ → Type 0) → (List ℕ → Type 0) → Type 0
StillLast lasting lasting' = (name : List ℕ) → lasting name → lasting' name

-- what is answered where a call failed
abbrev pub folder_fault : FolderError → Fault
folder_fault errors.NoMemory = Stop NoMemory
folder_fault errors.Refused = Io
