-- What clap's getters read, by the rows of what was found.
use Rattle.clap.proofs.WalkLemmas.{first_value-rows, one_text-rows, typed_values-rows}

-- for a text, for a number or a flag, and for several numbers
pub ruleset by_rows = (first_value-rows, one_text-rows, typed_values-rows)
