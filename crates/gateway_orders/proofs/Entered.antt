-- The command that a parse entered.
use Rattle.std.proofs.Common.{◌≡◌, ◌∙◌, ap₂, sym, List, Option, Some, None, refl}
use Rattle.std.specs.Prelude.{option_map}
use Rattle.clap.specs.Matches.{subcommand_name_of}
use Rattle.clap.specs.Walk.{Row, Text}
use Rattle.clap.specs.Simple.{subcommand_rows, subcommand_rows_of}
use Rattle.clap.specs.declared.parser.matches.ArgMatches.TheViews.{out-ArgMatches, out-SubCommand}
use Rattle.std.specs.Box.{box_value}
use Rattle.clap.specs.declared.parser.matches.ArgMatches.{ArgMatches}

-- its name and its rows, where the name is that of what was entered
pub entered_as : (m : ArgMatches) (name : Text) (rows : List Row) → Some name ≡ subcommand_name_of m
    → Some rows ≡ option_map (λ p. p.1) (subcommand_rows_of m) → subcommand_rows_of m ≡ Some (name, rows)
entered_as m name rows named given =
    go (subcommand_rows_of m) (named_by m ∙ sym named) (sym given)
  where
    -- a parse that entered a command has its name
    named_by : (m : ArgMatches) → option_map (λ p. p.0) (subcommand_rows_of m) ≡ subcommand_name_of m
    named_by m = elim (out-ArgMatches m).subcommand as (λ o.
        option_map (λ p. p.0) (subcommand_rows o) ≡ option_map (λ b. (out-SubCommand (box_value b)).name.now) o) [
          | None ↦ refl
          | Some b ↦ refl
        ]

    go : (o : Option (Text × List Row)) → option_map (λ p. p.0) o ≡ Some name → option_map (λ p. p.1) o ≡ Some rows
        → o ≡ Some (name, rows)
    go None e f = cc
    go (Some p) e f =
        let first : p.0 ≡ name = cc in
        let second : p.1 ≡ rows = cc in
        ap₂ (λ (x : Text) (y : List Row). Some (x, y)) first second
