-- Lists whose entries have different numbers.
use Rattle.std.specs.Prelude.{◌≡◌, ℕ, List, [], ◌∷◌, None}
use Rattle.upload_rules.specs.Store.{find}

-- No number occurs twice.
abbrev pub IsApart : {A : Type 0} → List (ℕ × A) → Type 0
IsApart [] = Unit {0}
IsApart (entry ∷ entries) = (find entry.0 entries ≡ None) × IsApart entries
