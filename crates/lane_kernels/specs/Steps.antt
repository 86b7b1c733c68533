-- The text of a step.
use Rattle.std.specs.Prelude.{ℕ, ◌+◌, ◌-◌, ◌*◌, Bool, true, false, not, List, [], ◌∷◌, ◌++◌, Option, Some, None}
use Rattle.std.specs.Prelude.{if◌then◌else◌}
use Rattle.lane_kernels.specs.Units.{is_lead, is_trail, lead_of}
use Rattle.lane_kernels.specs.declared.pairing.Step.{Step}

-- A fault gives one U+FFFD.
abbrev pub fault_text : Bool → List ℕ
fault_text true = 0xFFFD ∷ []
fault_text false = []

-- The text of a scalar, if there is one.
abbrev pub scalar_text : Option ℕ → List ℕ
scalar_text None = []
scalar_text (Some c) = c ∷ []

-- The fault precedes the scalar.
abbrev pub step_text : Step → List ℕ
step_text step = fault_text step.fault ++ scalar_text step.scalar

-- The fault of a unit after a carried lead or none: a trail without its lead, or a lead without its trail.
abbrev pub unit_fault : Option ℕ → ℕ → Bool
unit_fault None unit = is_trail unit
unit_fault (Some lead) unit = not (is_trail unit)

abbrev pub scalar_of_pair : Option ℕ → ℕ → Option ℕ
scalar_of_pair None trail = None
scalar_of_pair (Some lead) trail = Some (0x10000 + (lead - 0xD800) * 0x400 + (trail - 0xDC00))

-- The scalar that the unit completes.
abbrev pub unit_scalar : Option ℕ → ℕ → Option ℕ
unit_scalar carried unit =
    if is_lead unit then None else if is_trail unit then scalar_of_pair carried unit else Some unit

-- The scalars of units after a carried lead or none: one for each pair, and one for each unit that isn't a surrogate.
abbrev pub scalars_of : Option ℕ → List ℕ → List ℕ
scalars_of carried [] = []
scalars_of carried (unit ∷ units) = scalar_text (unit_scalar carried unit) ++ scalars_of (lead_of unit) units
