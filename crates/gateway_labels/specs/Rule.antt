-- How strange a text is.
use Rattle.std.specs.Prelude.{ℕ, ◌+◌, ◌-◌, ◌^◌, Bool, not, ◌&&◌, ◌==◌, nat_lt, List, [], ◌∷◌, count_by, min}
use Rattle.std.specs.Prelude.{if◌then◌else◌}
use Rattle.std.specs.List.{sum_by}
use Rattle.gateway_labels.specs.Classes.{class_of, is_odd, is_symbol, meets}

-- each character with the one before it: before the first stands this one
abbrev pub neighbours : ℕ → List ℕ → List (ℕ × ℕ)
neighbours before [] = []
neighbours before (c ∷ text) = (before, c) ∷ neighbours c text

-- the last of them
abbrev pub last_of : ℕ → List ℕ → ℕ
last_of before [] = before
last_of before (c ∷ text) = last_of c text

-- a character behind another one is strange. Two of ASCII never are, since all encodings read those as they are
unfoldable pub is_strange : ℕ × ℕ → Bool
is_strange pair = not (nat_lt pair.0 128 && nat_lt pair.1 128) && meets (class_of pair.0) (class_of pair.1)

-- what a character adds to the strangeness of its text, with the one before it
unfoldable pub weight : ℕ × ℕ → ℕ
weight pair = (if pair.1 == 0xFFFD then 20 else 0) + (if is_odd (class_of pair.1) then 5 else 0)
    + (if is_symbol (class_of pair.1) then 1 else 0) + (if is_strange pair then 1 else 0)

-- HOW STRANGE A TEXT IS. Before its first character stands a space
abbrev pub strangeness : List ℕ → ℕ
strangeness text = sum_by weight (neighbours 32 text)

-- and how many characters were lost
abbrev pub lost_in : List ℕ → ℕ
lost_in text = count_by (λ c. c == 0xFFFD) text

-- counts end at 2⁶⁴ - 1
abbrev pub capped : ℕ → ℕ
capped n = min n (2 ^ 64 - 1)
