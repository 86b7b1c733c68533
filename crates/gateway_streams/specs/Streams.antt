-- A reader or a writer that stores why it failed, and how often.
use Rattle.std.specs.Prelude.{ℕ, ◌-◌, ◌^◌, Option}
use Rattle.std.specs.declared.io.Error.{Error}
use Rattle.gateway_streams.specs.declared.noted.Noted.{Noted}

-- the stream under one that stores why its latest call failed, and that reason
abbrev pub noted_stream : {S : Type 0} → Noted S → S
noted_stream noted = noted.stream

abbrev pub latest_error_of : {S : Type 0} → Noted S → Option Error
latest_error_of noted = noted.error

-- how many calls it refused as input or output
abbrev pub refusals_of : {S : Type 0} → Noted S → ℕ
refusals_of noted = noted.refusals

-- how many more pieces it gives as input at most
abbrev pub pieces_of : {S : Type 0} → Noted S → ℕ
pieces_of noted = 2 ^ 64 - noted.given
