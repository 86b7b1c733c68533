-- What clap found for a command, by the names of its arguments.
use Rattle.std.specs.Prelude.{◌≡◌, ◌<◌, ◌^◌, ℕ, Bool, true, false, List, [], ◌∷◌, IsSomeAnd, codes, ⊤}
use Rattle.std.specs.Prelude.{MatchOption, Option, Some, None}
use Rattle.std.specs.Str.Parse.{IsNumeral, digits_value, without_leading_plus}
use Rattle.clap.specs.Walk.{Row, Text, first_of, many_of, one_of}

-- the text of an argument
abbrev pub HasArgument : List Row → Text → Text → Type 0
HasArgument given name text = first_of name given ≡ Some text

-- a text writes this number, of at most so many bits
abbrev pub IsNumeralOf : ℕ → Text → ℕ → Type 0
IsNumeralOf bits text n = IsNumeral 10 (without_leading_plus text) × (digits_value 10 (without_leading_plus text) ≡ n)
    × (n < 2 ^ bits)

-- the number that the text of an argument writes
abbrev pub HasNumber : ℕ → List Row → Text → ℕ → Type 0
HasNumber bits given name n = IsSomeAnd (one_of name given) (λ text. IsNumeralOf bits text n)

-- the same, and no number where the argument isn't given
abbrev pub HasNumberIfAny : ℕ → List Row → Text → Option ℕ → Type 0
HasNumberIfAny bits given name number =
    MatchOption (one_of name given) (number ≡ None) (λ text. IsSomeAnd number (IsNumeralOf bits text))

-- the texts write the numbers, one by one
abbrev pub WriteAll : ℕ → List Text → List ℕ → Type 0
WriteAll bits [] [] = ⊤
WriteAll bits [] (n ∷ numbers) = ⊥
WriteAll bits (text ∷ texts) [] = ⊥
WriteAll bits (text ∷ texts) (n ∷ numbers) = IsNumeralOf bits text n × WriteAll bits texts numbers

-- the numbers that the texts of an argument write, in their order
abbrev pub HasNumbers : ℕ → List Row → Text → List ℕ → Type 0
HasNumbers bits given name numbers = IsSomeAnd (many_of name given) (λ texts. WriteAll bits texts numbers)

-- the same, and no numbers where the argument isn't given
abbrev pub HasNumbersIfAny : ℕ → List Row → Text → List ℕ → Type 0
HasNumbersIfAny bits given name numbers =
    MatchOption (many_of name given) (numbers ≡ []) (λ texts. WriteAll bits texts numbers)

-- whether an argument without a value is given, which clap stores as one of two texts
abbrev pub HasFlag : List Row → Text → Bool → Type 0
HasFlag given name flag = (one_of name given ≡ Some (codes "true") → flag ≡ true)
    × (one_of name given ≡ Some (codes "false") → flag ≡ false) × (one_of name given ≡ None → flag ≡ false)
