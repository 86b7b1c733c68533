-- How the program ends.
use Rattle.std.specs.Prelude.{ℕ, Result, Ok, Err}
use Rattle.gateway_outside.specs.Faults.{exit_status_of}
use Rattle.gateway_outside.specs.declared.failures.Failure.{Failure}
use Rattle.gateway_outside.specs.declared.faults.Fault.{Fault}

abbrev pub fault_in : Failure → Fault
fault_in failure = failure.fault

-- the status that was reached, or that of the failure
abbrev pub status_with : Result ℕ Failure → ℕ
status_with (Ok status) = status
status_with (Err failure) = exit_status_of (fault_in failure)
