-- The numbers of a session's errors.
use Rattle.std.specs.Prelude.{ℕ}
use Rattle.tus_session.specs.declared.errors.SessionError.{SessionError}
use Rattle.tus_session.specs.declared.errors.SessionError.TheVariants.{Stop, TooMany, Closed, Down}
use Rattle.common.specs.declared.stop.Stop.TheVariants.{NoMemory, DiskFault}

-- The number that a script reports.
abbrev pub error_number : SessionError → ℕ
error_number (Stop NoMemory) = 0
error_number (Stop DiskFault) = 1
error_number TooMany = 29
error_number Closed = 30
error_number Down = 31
