-- Why serving stopped, and the disk that it hands back.
use Rattle.std.specs.Prelude.{◌≡◌, Result, Ok, Err, IsErrAnd}
use Rattle.gateway_outside.specs.Failures.{fault_in}
use Rattle.gateway_outside.specs.declared.failures.Failure.{Failure}
use Rattle.gateway_outside.specs.declared.faults.Fault.{Fault}
use Rattle.gateway_up.specs.declared.stops.Stopped.{Stopped}
use Rattle.gateway_up.specs.declared.stops.Stopped.TheVariants as stopped

-- the program's fault for it
abbrev pub fault_of : Stopped → Fault
fault_of (stopped.Spool fault) = fault
fault_of (stopped.Outside failure) = fault_in failure

module _ {D : Type 0} where
  abbrev pub disk_back : Result D (D × Stopped) → D
  disk_back (Ok d) = d
  disk_back (Err (d, stopped)) = d

  -- it ended for this
  abbrev pub EndsFor : Result D (D × Stopped) → (Fault → Type 0) → Type 0
  EndsFor result P = IsErrAnd result (λ e. P (fault_of e.1))

  -- what the program answers for it
  abbrev pub AnswersStop : {T : Type 0} → Result D (D × Stopped) → Result T Failure → Type 0
  AnswersStop (Ok d) (Ok t) = Unit {0}
  AnswersStop (Err (d, stopped)) (Err failure) = fault_in failure ≡ fault_of stopped
  AnswersStop (Ok d) (Err failure) = ⊥
  AnswersStop (Err e) (Ok t) = ⊥
