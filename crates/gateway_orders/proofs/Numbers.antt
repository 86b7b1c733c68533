-- Numbers that are read one after the other.
use Rattle.std.proofs.Common.{◌≡◌, ◌∙◌, ◌<◌, ◌^◌, ℕ, List, [], ◌∷◌, Option, Some, None, Result, Ok, subst, sym}
use Rattle.std.specs.Prelude.{IsSomeAnd, option_map}
use Rattle.std.specs.Str.Parse.{ExplainsUnsignedError, HasUnsignedDigitsIfOk, ParsesUnsigned}
use Rattle.std.specs.declared.num.ParseIntError.{ParseIntError}
use Rattle.clap.specs.Matches.{StepsValues, matched_of, typed_values}
use Rattle.clap.specs.Walk.{Text, rows_of}
use Rattle.clap.specs.declared.parser.matches.Found.{Found}
use Rattle.clap.proofs.WalkLemmas.{typed_values-rows}
use Rattle.gateway_orders.specs.Given.{HasNumbers, WriteAll}

-- how a `u64` is read
abbrev pub Gives : Text → Result ℕ ParseIntError → Type 0
Gives text r = ParsesUnsigned 64 10 text r × ExplainsUnsignedError 10 text r × HasUnsignedDigitsIfOk text r

-- what all texts of an argument write are its numbers
pub numbers_found : (f : Found) (name : Text) (texts : List Text) (numbers : List ℕ)
    → Some texts ≡ option_map typed_values (matched_of f name) → WriteAll 64 texts numbers
    → HasNumbers 64 (rows_of f) name numbers
numbers_found f name texts numbers found written =
    subst (λ (o : Option (List Text)). IsSomeAnd o (λ all. WriteAll 64 all numbers))
    (found ∙ typed_values-rows f name) written

-- a number was read, and the texts after it write the rest
pub one_written : (left after : List Text) (n : ℕ) (rest : List ℕ) → StepsValues Gives left after (Some (Ok n))
    → WriteAll 64 after rest → WriteAll 64 left (n ∷ rest)
one_written [] after n rest step written = absurd step
one_written (text ∷ left) after n rest step written = (
  (step.0.0.0.0, sym step.0.0.1, subst (λ (m : ℕ). m < 2 ^ 64) (sym step.0.0.1) step.0.0.0.1),
  subst (λ (texts : List Text). WriteAll 64 texts rest) step.1 written,
)

-- no text is left
pub none_written : (left after : List Text) → StepsValues Gives left after None → WriteAll 64 left []
none_written [] after step = tt
none_written (text ∷ left) after step = absurd step
