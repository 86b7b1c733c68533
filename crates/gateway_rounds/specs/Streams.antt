-- What a run of a round reads.
use Rattle.std.specs.Prelude.{ℕ, List}
use Rattle.gateway_rounds.specs.declared.streams.ScriptBytes.{ScriptBytes}

-- what is left to be read
abbrev pub rest_of : ScriptBytes → List ℕ
rest_of s = s.rest.now
