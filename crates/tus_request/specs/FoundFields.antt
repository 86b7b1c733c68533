-- The values of a name, by the first field that has it.
use Rattle.std.specs.Prelude.{ℕ, List, [], ◌∷◌, Option, Some, None}
use Rattle.tus_request.specs.Fields.{values}
use Rattle.tus_request.specs.declared.fields.Found.{Found}

-- The value that was found, and those of the fields after it.
abbrev pub found_values : Option Found → List ℕ → List (List ℕ)
found_values None name = []
found_values (Some found) name = found.value.now ∷ values found.rest.now name
