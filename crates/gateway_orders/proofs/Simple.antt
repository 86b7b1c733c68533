-- The program's commands are among those whose matches clap's contract states.
use Rattle.std.proofs.Common.{◌≡◌, ◌∷◌, [], Bool, List, map, true, false, refl}
use Rattle.std.specs.Prelude.{◌&&◌, not, is_some}
use Rattle.std.specs.List.{list_all}
use Rattle.clap.specs.Walk.{is_empty, is_simple_arg}
use Rattle.clap.specs.Simple.{is_simple, shape_of}
use Rattle.clap.specs.declared.builder.arg.Arg.{Arg}
use Rattle.clap.specs.declared.builder.command.Command.{Command}
use Rattle.clap.specs.declared.builder.command.Command.TheViews.{out-Command}
use Rattle.clap.proofs.OnLiterals.{clap_on_literals}
use Rattle.gateway_orders.specs.declared.commands.Given.{Given}
use Rattle.gateway_orders.specs.declared.commands.With.{With}
use Rattle.gateway_orders.specs.declared.commands.With.TheVariants as with
use Rattle.gateway_orders.specs.Program.{program, rule_for, rule_with}

pub program_is_simple : is_simple program ≡ true
unfolding clap_on_literals
program_is_simple = refl

pub and_right : (a b : Bool) → (a && b) ≡ true → b ≡ true
and_right true b both = both
and_right false b both = cc

pub and_left : (a b : Bool) → (a && b) ≡ true → a ≡ true
and_left true b both = refl
and_left false b both = cc

no_more : (b : Bool) → not b ≡ true → b ≡ false
no_more true refused = cc
no_more false refused = refl

last : (a b c d e f g h i j : Bool)
    → (a && (b && (c && (d && (e && (f && (g && (h && (i && j))))))))) ≡ true → j ≡ true
last a b c d e f g h i j all =
    and_right i j (and_right h _ (and_right g _ (and_right f _ (and_right e _ (and_right d _
    (and_right c _ (and_right b _ (and_right a _ all))))))))

-- an argument that is simple isn't global
pub simple_is_local : (a : Arg) → is_simple_arg a ≡ true → a.global ≡ false
simple_is_local a simple = no_more a.global
    (last (is_empty a.overrides.items) (is_empty a.default_vals_ifs.items) (is_empty a.groups.items)
    (not (is_some a.val_delim)) (not (is_some a.terminator)) (not a.allow_hyphen_values)
    (not a.allow_negative_numbers) (not a.require_equals) (not a.last) (not a.global) simple)

third : (a b c d : Bool) → (a && (b && (c && d))) ≡ true → c ≡ true
third a b c d all = and_left c d (and_right b _ (and_right a _ all))

-- a command that is plain has no global argument
pub plain_is_local : (c : Command) → (shape_of c).is_plain ≡ true → (out-Command c).has_globals ≡ false
plain_is_local c plain = no_more (out-Command c).has_globals
    (third (is_empty (out-Command c).groups.items) (not (out-Command c).allow_external_subcommands)
    (not (out-Command c).has_globals) _ plain)

simple_with : (w : With) (name : List _) → (rule_with w name).is_simple ≡ true
simple_with with.Word name = refl
simple_with with.Number name = refl
simple_with (with.NumbersOr others) name = refl
simple_with (with.NumbersWith value other) name = refl
simple_with with.Nothing name = refl
simple_with (with.NothingOr other) name = refl
simple_with (with.NothingWith other) name = refl
simple_with (with.Text value) name = refl
simple_with (with.TextOr value text) name = refl
simple_with (with.U16 value) name = refl
simple_with (with.U32 value) name = refl
simple_with (with.U64 value) name = refl
simple_with (with.U64IfAny value) name = refl

both : (a b : Bool) → a ≡ true → b ≡ true → (a && b) ≡ true
both a b p q = cc

-- each argument of the program is simple
pub rules_are_simple : (givens : List Given) → list_all (λ r. r.is_simple) (map rule_for givens) ≡ true
rules_are_simple [] = refl
rules_are_simple (given ∷ givens) =
    both _ _ (simple_with given.with given.name.now) (rules_are_simple givens)
