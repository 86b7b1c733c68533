-- Lists that only clauses read.
use Rattle.std.specs.Prelude.{List}
use Rattle.common.specs.declared.trace.Trace.{Trace}

-- the history of these items
abbrev pub trace_of : {T : Type 0} → List T → Trace T
trace_of items = record { of = record {}; items = items }
