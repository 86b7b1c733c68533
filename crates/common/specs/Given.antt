-- What the reads of a disk gave.
use Rattle.std.specs.Prelude.{◌≡◌, ℕ, ◌++◌, List}
use Rattle.common.specs.Traces.{trace_of}
use Rattle.common.specs.declared.given.GivenRead.{GivenRead}

-- A read that gave these bytes from the place on.
abbrev pub given : ℕ → List ℕ → GivenRead
given at bs = record { at = at; bytes = trace_of bs }

-- There were reads since, and no earlier one was forgotten.
pub record MoreReads (old new : List GivenRead) : Type 0 where
  pub added : List GivenRead
  pub grown : new ≡ added ++ old
