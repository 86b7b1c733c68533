-- UTF-16 units of bytes, and whether their surrogates are paired.
use Rattle.std.specs.Prelude.{ℕ, ◌+◌, ◌-◌, ◌<◌, ◌≡◌, Bool, true, not, List, [], ◌∷◌, length, slice_index, Option, Some}
use Rattle.std.specs.Prelude.{None, if◌then◌else◌}
use Rattle.std.specs.Option.{is_some}
use Rattle.enc_model.specs.Index.{within}
use Rattle.enc_model.specs.Utf16.{unit_of}

-- A lead surrogate.
abbrev pub is_lead : ℕ → Bool
is_lead unit = within 0xD800 0xDBFF unit

-- A trail surrogate.
abbrev pub is_trail : ℕ → Bool
is_trail unit = within 0xDC00 0xDFFF unit

-- A unit that is a scalar: it isn't a surrogate.
abbrev pub is_scalar_unit : ℕ → Bool
is_scalar_unit unit = not (within 0xD800 0xDFFF unit)

-- A carried lead is a lead surrogate.
abbrev pub IsCarried : Option ℕ → Type 0
IsCarried None = Unit {0}
IsCarried (Some unit) = is_lead unit ≡ true

-- Paired units, after a carried lead or none: a unit is a trail exactly if a lead precedes it. So each trail follows a
-- lead, and each lead is followed by a trail unless it is the last unit.
pub record ArePaired (carried : Option ℕ) (units : List ℕ) : Type 0 where
  -- The carried lead precedes the first unit.
  pub first : 0 < length units → is_trail (slice_index units 0) ≡ is_some carried
  pub next : (k : ℕ) → k + 1 < length units → is_trail (slice_index units (k + 1)) ≡ is_lead (slice_index units k)

-- The unit, if it is a lead.
abbrev pub lead_of : ℕ → Option ℕ
lead_of unit = if is_lead unit then Some unit else None

-- The last unit, if it is a lead.
abbrev pub last_lead : List ℕ → Option ℕ
last_lead units = lead_of (slice_index units (length units - 1))

-- The bytes, with the carried one before them.
abbrev pub with_carried : Option ℕ → List ℕ → List ℕ
with_carried None bytes = bytes
with_carried (Some byte) bytes = byte ∷ bytes

-- The units of the bytes, two by two.
abbrev pub units_of : Bool → List ℕ → List ℕ
units_of big [] = []
units_of big (a ∷ []) = []
units_of big (a ∷ b ∷ bytes) = unit_of big a b ∷ units_of big bytes

-- The byte that is left over.
abbrev pub left_over : List ℕ → Option ℕ
left_over [] = None
left_over (a ∷ []) = Some a
left_over (a ∷ b ∷ bytes) = left_over bytes
