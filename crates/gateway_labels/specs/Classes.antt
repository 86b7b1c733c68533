-- What the rule sees of a character, by Unicode's general category and script.
use Rattle.std.specs.Prelude.{ℕ, Bool, true, false, not, ◌&&◌, ◌||◌, ◌==◌, nat_lt, nat_le, if◌then◌else◌}
use Rattle.ucd_category.specs.GeneralCategory.{general_category}
use Rattle.ucd_category.specs.declared.GeneralCategory.{GeneralCategory}
use Rattle.ucd_category.specs.declared.GeneralCategory.TheVariants as categories
use Rattle.ucd_script.specs.Script.{script, script_eq}
use Rattle.ucd_script.specs.declared.Script.{Script}
use Rattle.ucd_script.specs.declared.Script.TheVariants as scripts
use Rattle.gateway_labels.specs.declared.class.Case.{Case}
use Rattle.gateway_labels.specs.declared.class.Case.TheVariants as cases
use Rattle.gateway_labels.specs.declared.class.Class.{Class}
use Rattle.gateway_labels.specs.declared.class.Class.TheVariants as classes

-- the script of a letter: those that Japanese mixes are one, and the wide letters of Latin are among them
unfoldable pub merged : Script → Script
merged scripts.Hiragana = scripts.Han
merged scripts.Katakana = scripts.Han
merged s = s

abbrev pub script_of : ℕ → Script
script_of c = if nat_le 0xFF21 c && nat_le c 0xFF5A then scripts.Han else merged (script c)

-- tabs and line ends are of no account, other controls are odd
abbrev pub control : ℕ → Class
control c = if (c == 9) || (c == 10) || (c == 13) then classes.Plain else classes.Odd

-- digits and symbols of ASCII are of no account
abbrev pub beyond_ascii : ℕ → Class → Class
beyond_ascii c class = if nat_lt c 128 then classes.Plain else class

unfoldable pub by_category : ℕ → GeneralCategory → Class
by_category c categories.LowercaseLetter = classes.Letter cases.Small (script_of c)
by_category c categories.UppercaseLetter = classes.Letter cases.Capital (script_of c)
by_category c categories.TitlecaseLetter = classes.Letter cases.Neither (script_of c)
by_category c categories.ModifierLetter = classes.Letter cases.Neither (script_of c)
by_category c categories.OtherLetter = classes.Letter cases.Neither (script_of c)
by_category c categories.DecimalNumber = beyond_ascii c classes.Number
by_category c categories.LetterNumber = beyond_ascii c classes.Number
by_category c categories.OtherNumber = beyond_ascii c classes.Number
by_category c categories.MathSymbol = beyond_ascii c classes.Symbol
by_category c categories.CurrencySymbol = beyond_ascii c classes.Symbol
by_category c categories.ModifierSymbol = beyond_ascii c classes.Symbol
by_category c categories.OtherSymbol = beyond_ascii c classes.Symbol
by_category c categories.PrivateUse = classes.Odd
by_category c categories.Unassigned = classes.Odd
by_category c categories.Control = control c
by_category c category = classes.Plain

-- THE CLASS OF A CHARACTER
unfoldable pub class_of : ℕ → Class
class_of c = by_category c (general_category c)

abbrev pub is_odd : Class → Bool
is_odd classes.Odd = true
is_odd class = false

abbrev pub is_symbol : Class → Bool
is_symbol classes.Symbol = true
is_symbol class = false

-- a word hardly has letters of both: those of no script in particular stand beside any
abbrev pub mixes : Script → Script → Bool
mixes s t = not (script_eq s t) && not (script_eq s scripts.Common) && not (script_eq t scripts.Common)

abbrev pub is_capital_behind_small : Case → Case → Bool
is_capital_behind_small cases.Small cases.Capital = true
is_capital_behind_small case next = false

-- STRANGE NEIGHBOURS: letters of two scripts, a capital right behind a small letter, a number or a symbol right behind
-- a letter, and a letter right behind a symbol
abbrev pub meets : Class → Class → Bool
meets (classes.Letter case s) (classes.Letter next t) = is_capital_behind_small case next || mixes s t
meets (classes.Letter case s) classes.Number = true
meets (classes.Letter case s) classes.Symbol = true
meets classes.Symbol (classes.Letter next t) = true
meets class next = false
