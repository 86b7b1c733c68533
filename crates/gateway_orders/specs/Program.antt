-- THE COMMANDS of the program, as clap reads them.
use Rattle.std.specs.Prelude.{true, false, List, [], ◌∷◌, Some, codes, pos, map}
use Rattle.clap.specs.Lexer.{usize_max}
use Rattle.clap.specs.Walk.{Rule, Text, is_empty}
use Rattle.clap.specs.Simple.{App, Shape, new_rule, new_shape}
use Rattle.clap.specs.declared.builder.action.ArgAction.TheVariants.{Set, SetTrue}
use Rattle.clap.specs.declared.builder.value_parser.ValueParser.{ValueParser}
use Rattle.clap.specs.declared.builder.value_parser.ValueParser.TheVariants.{Signed, Unsigned}
use Rattle.gateway_orders.specs.declared.commands.Described.{Described}
use Rattle.gateway_orders.specs.declared.commands.Given.{Given}
use Rattle.gateway_orders.specs.declared.commands.With.{With}
use Rattle.gateway_orders.specs.declared.commands.With.TheVariants as with

-- a word by itself
abbrev pub word_rule : Text → Rule
word_rule name = record (new_rule name) { required = true }

-- a number by itself
abbrev pub number_word_rule : Text → Rule
number_word_rule name = record (word_rule name) { parser = Some (Unsigned 0 18446744073709551615) }

-- one or more numbers by themselves, required where none of some other arguments is given and refused beside them
abbrev pub numbers_rule : List Text → Text → Rule
numbers_rule others name = record (new_rule name) {
  range = Some (record { start_inclusive = 1; end_inclusive = usize_max });
  parser = Some (Unsigned 0 18446744073709551615);
  is_free = is_empty others;
}

-- an argument after `--` and its name, with nothing after it
abbrev pub flag_rule : Text → Rule
flag_rule name = record (new_rule name) { long = Some name; action = Some SetTrue }

-- the same, refused or required beside another one
abbrev pub bound_rule : Text → Rule
bound_rule name = record (flag_rule name) { is_free = false }

-- an argument after `--` and its name, with a value after it, or with this one by default
abbrev pub option_rule : Text → Rule
option_rule name = record (new_rule name) { long = Some name; action = Some Set; value_names = 1 }

-- the same with one or more numbers, and another one is required beside them
abbrev pub later_numbers_rule : Text → Rule
later_numbers_rule name = record (option_rule name) {
  range = Some (record { start_inclusive = 1; end_inclusive = usize_max });
  parser = Some (Unsigned 0 18446744073709551615);
  is_free = false;
}

abbrev pub text_rule : Text → Rule
text_rule name = record (option_rule name) { required = true }

abbrev pub default_rule : Text → Text → Rule
default_rule text name = record (option_rule name) { defaults = text ∷ [] }

abbrev pub number_rule : ValueParser → Text → Rule
number_rule parser name = record (text_rule name) { parser = Some parser }

abbrev pub u16_rule : Text → Rule
u16_rule = number_rule (Signed (pos 0) (pos 65535))

abbrev pub u32_rule : Text → Rule
u32_rule = number_rule (Signed (pos 0) (pos 4294967295))

abbrev pub u64_rule : Text → Rule
u64_rule = number_rule (Unsigned 0 18446744073709551615)

-- a number that isn't required
abbrev pub u64_if_any_rule : Text → Rule
u64_if_any_rule name = record (option_rule name) { parser = Some (Unsigned 0 18446744073709551615) }

abbrev pub rule_with : With → Text → Rule
rule_with with.Word = word_rule
rule_with with.Number = number_word_rule
rule_with (with.NumbersOr others) = numbers_rule (map (λ other. other.now) others.now)
rule_with (with.NumbersWith value other) = later_numbers_rule
rule_with with.Nothing = flag_rule
rule_with (with.NothingOr other) = bound_rule
rule_with (with.NothingWith other) = bound_rule
rule_with (with.Text value) = text_rule
rule_with (with.TextOr value text) = default_rule text.now
rule_with (with.U16 value) = u16_rule
rule_with (with.U32 value) = u32_rule
rule_with (with.U64 value) = u64_rule
rule_with (with.U64IfAny value) = u64_if_any_rule

-- an argument and a command, by their descriptions
abbrev pub rule_for : Given → Rule
rule_for given = rule_with given.with given.name.now

abbrev pub shape_named : Text → List Rule → Shape
shape_named name rules = record (new_shape name) { rules = rules }

abbrev pub shape_for : Described → Shape
shape_for described = shape_named described.name.now (map rule_for described.takes.now)

abbrev pub shapes : List Shape
shapes = shape_named (codes "format")
    (word_rule (codes "SPOOL") ∷ u32_rule (codes "blocks") ∷ text_rule (codes "indexes")
    ∷ flag_rule (codes "overwrite") ∷ flag_rule (codes "standard-indexes") ∷ u64_if_any_rule (codes "first") ∷ [])
    ∷ shape_named (codes "up")
    (word_rule (codes "SPOOL") ∷ default_rule (codes "127.0.0.1:8080") (codes "listen") ∷ flag_rule (codes "quiet")
    ∷ flag_rule (codes "log") ∷ [])
    ∷ shape_named (codes "list")
    (word_rule (codes "SPOOL") ∷ flag_rule (codes "long") ∷ bound_rule (codes "json") ∷ [])
    ∷ shape_named (codes "delete")
    (word_rule (codes "SPOOL") ∷ numbers_rule (codes "incomplete" ∷ codes "but" ∷ codes "yes" ∷ []) (codes "NUMBER")
    ∷ flag_rule (codes "incomplete") ∷ later_numbers_rule (codes "but") ∷ bound_rule (codes "yes") ∷ [])
    ∷ shape_named (codes "export")
    (word_rule (codes "SPOOL") ∷ word_rule (codes "DIR") ∷ flag_rule (codes "all") ∷ [])
    ∷ shape_named (codes "labels")
    (text_rule (codes "indexes") ∷ flag_rule (codes "all") ∷ flag_rule (codes "json") ∷ [])
    ∷ shape_named (codes "text")
    (text_rule (codes "from") ∷ default_rule (codes "utf-8") (codes "to")
    ∷ default_rule (codes "html") (codes "mode") ∷ text_rule (codes "indexes") ∷ flag_rule (codes "strict") ∷ [])
    ∷ shape_named (codes "upgrade") (word_rule (codes "SPOOL") ∷ [])
    ∷ shape_named (codes "raise") (word_rule (codes "SPOOL") ∷ number_word_rule (codes "NUMBER") ∷ [])
    ∷ shape_named (codes "serve")
    (word_rule (codes "SPOOL") ∷ u16_rule (codes "port") ∷ u64_rule (codes "connections")
    ∷ u64_rule (codes "turns") ∷ [])
    ∷ shape_named (codes "script") (word_rule (codes "SPOOL") ∷ [])
    ∷ []

-- THE PROGRAM: it has a version, and one of the commands is to be given
abbrev pub program : App
program = record {
  top = record (new_shape (codes "gateway")) { has_version = true; subcommand_required = true; is_leaf = false };
  subs = shapes;
}
