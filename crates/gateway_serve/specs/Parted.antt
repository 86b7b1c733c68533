-- What is done with the streams of connections that ended.
use Rattle.std.specs.Prelude.{ℕ, List, Result, Ok, Err}
use Rattle.std.specs.IoError.{error_kind}
use Rattle.std.specs.declared.io.Error.{Error}
use Rattle.std.specs.declared.time.Duration.{Duration}
use Rattle.gateway_serve.specs.declared.parted.Parted.{Parted}
use Rattle.gateway_serve.specs.declared.parted.Parting.{Parting}
use Rattle.gateway_serve.specs.declared.parted.Parting.TheVariants.{Read, Failed}

abbrev pub calls_of : {S : Type 0} → Parted S → List Parting
calls_of p = p.calls.items

-- a read, as it answered
abbrev pub after_read : Duration → ℕ → Result ℕ Error → Parting
after_read now room (Ok n) = Read now n room
after_read now room (Err e) = Failed now (error_kind e)
