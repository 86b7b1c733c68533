-- Which openings of files failed, and what a command makes of one that may fail.
use Rattle.std.specs.Prelude.{◌≡◌, ◌⊎◌, ◌∷◌, ℕ, List, Option, Some, Result, Ok, Err, IsErrAnd}
use Rattle.std.specs.declared.io.ErrorKind.{ErrorKind}
use Rattle.common.specs.Traces.{trace_of}
use Rattle.gateway_outside.specs.Failures.{fault_in}
use Rattle.gateway_outside.specs.Faults.{opening_fault}
use Rattle.gateway_outside.specs.SpoolFiles.{Disks, Leaves}
use Rattle.gateway_outside.specs.declared.failures.Failure.{Failure}
use Rattle.gateway_outside.specs.declared.faults.Fault.{Fault}
use Rattle.gateway_outside.specs.declared.openings.Unopened.{Unopened}

-- the opening of the file at this path failed so
abbrev pub failed_opening : List ℕ → ErrorKind → Unopened
failed_opening path kind = record { path = trace_of path; kind = kind }

-- the one call of `open` since then was for this path and failed, and this is its failure
abbrev pub FailedToOpen : List Unopened → List Unopened → List ℕ → Failure → Type 0
FailedToOpen before after path failure =
    (kind : ErrorKind) × (after ≡ failed_opening path kind ∷ before) × (fault_in failure ≡ opening_fault kind)

-- THE FILE WASN'T OPENED, and its disk is as it was
pub record StaysShut {D : Type 0} (before after : List Unopened) (path : List ℕ) (d : D) (failure : Failure) (d' : D) :
    Type 0 where
  pub same : d' ≡ d
  pub why : FailedToOpen before after path failure

-- WHAT A COMMAND PROMISES of the file at a path, by what the files hold, which openings failed and what was printed
-- before and after: its disk was changed so, or the one call that was to open it failed, and nothing was printed
module _ {T D : Type 0} (holds holds' : Disks D → Type 0) (shut shut' : List Unopened) (path : List ℕ)
    (before after : Option (List ℕ)) (result : Result T Failure) where
  abbrev pub OpensOr : (D → D → Type 0) → Type 0
  OpensOr P = (disks : Disks D) (d : D) → holds disks → disks path ≡ Some d → Leaves holds' disks path
      (λ d'. IsErrAnd result (λ failure. StaysShut shut shut' path d failure d' × (after ≡ before)) ⊎ P d d')

-- it ended well, or with this fault alone
abbrev pub EndsWellBut : {T : Type 0} → Result T Failure → Fault → Type 0
EndsWellBut (Ok t) fault = Unit {0}
EndsWellBut (Err failure) fault = fault_in failure ≡ fault
