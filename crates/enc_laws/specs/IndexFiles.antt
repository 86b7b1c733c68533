-- The meaning of an index file's lines: a map, or the first line that breaks it.
use Rattle.std.specs.Prelude.{ℕ, suc, ◌<◌, ◌≡◌, ◌⊎◌, true, false, List, [], ◌∷◌, ◌++◌, Some, None, length}
use Rattle.enc_index.specs.declared.kind.ReadError.{ReadError}
use Rattle.enc_index.specs.declared.kind.ReadError.TheVariants.{Line, Range, Twice, NoMemory}
use Rattle.enc_index.specs.Scalars.{is_scalar}
use Rattle.enc_index.specs.Files.{is_dropped, pair_of}

-- A line that isn't ignored gives this pointer and code point.
abbrev pub LineGives : List ℕ → ℕ → ℕ → Type 0
LineGives line p c = (is_dropped line ≡ false) × (pair_of line ≡ Some (p, c))

-- One of the lines does.
abbrev pub Give : List (List ℕ) → ℕ → ℕ → Type 0
Give [] p c = ⊥
Give (line ∷ lines) p c = LineGives line p c ⊎ Give lines p c

-- A pointer below the bound, with a scalar value.
abbrev pub IsInRange : ℕ → ℕ × ℕ → Type 0
IsInRange bound pair = (pair.0 < bound) × (is_scalar pair.1 ≡ true)

-- The line gives a pair in range whose pointer no line before it gives.
pub record GivesNew (bound : ℕ) (prefix : List (List ℕ)) (line : List ℕ) : Type 0 where
  pub pair : ℕ × ℕ
  pub gives : pair_of line ≡ Some pair
  pub range : IsInRange bound pair
  pub fresh : (c : ℕ) → Give prefix pair.0 c → ⊥

-- Each line is ignored or gives such a pair.
abbrev pub AreGoodAfter : ℕ → List (List ℕ) → List (List ℕ) → Type 0
AreGoodAfter bound prefix [] = Unit {0}
AreGoodAfter bound prefix (line ∷ lines) =
    (is_dropped line ≡ false → GivesNew bound prefix line) × AreGoodAfter bound (prefix ++ line ∷ []) lines

-- Each line that isn't ignored gives a pair in range, and no pointer occurs twice.
abbrev pub AreGood : ℕ → List (List ℕ) → Type 0
AreGood bound lines = AreGoodAfter bound [] lines

-- The fault of line n: no pair, one out of range, or one whose pointer occurred before.
abbrev pub Breaks : ℕ → List (List ℕ) → List ℕ → ℕ → ReadError → Type 0
Breaks bound prefix line n (Line m) = (m ≡ n) × (pair_of line ≡ None)
Breaks bound prefix line n (Range m) = (m ≡ n) × (pair : ℕ × ℕ) × (pair_of line ≡ Some pair) ×
    (IsInRange bound pair → ⊥)
Breaks bound prefix line n (Twice m) =
    (m ≡ n) × (pair : ℕ × ℕ) × (pair_of line ≡ Some pair) × IsInRange bound pair × (c : ℕ) × Give prefix pair.0 c
Breaks bound prefix line n NoMemory = ⊥

-- The lines before this one are good, and this one breaks it. Lines are counted from 1.
pub record IsFirstBad (bound : ℕ) (lines : List (List ℕ)) (e : ReadError) : Type 0 where
  pub prefix : List (List ℕ)
  pub line : List ℕ
  pub back : List (List ℕ)
  pub parts : lines ≡ prefix ++ line ∷ back
  pub good : AreGood bound prefix
  pub counts : is_dropped line ≡ false
  pub breaks : Breaks bound prefix line (suc (length prefix)) e
