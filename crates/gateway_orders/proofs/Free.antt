-- The argument that takes one or more numbers, and is bound to others.
use Rattle.std.proofs.Common.{◌≡◌, ◌∙◌, Bool, Option, List, [], ◌∷◌, ◌++◌, Some, None, true, false, refl, ap, ap₂, sym}
use Rattle.std.proofs.Common.{arith, map}
use Rattle.std.specs.Prelude.{◌&&◌, not, IsSomeAnd}
use Rattle.std.specs.Borrow.{Bor}
use Rattle.std.proofs.lemmas.Bool.Decides.{nat_tests}
use Rattle.clap.specs.Walk.{Rule, Text, is_empty, is_free_arg, rule_of}
use Rattle.clap.specs.Adds.{AddsConflicts, AddsRequiredUnless}
use Rattle.clap.specs.Simple.{new_rule}
use Rattle.clap.specs.declared.builder.arg.Arg.{Arg}
use Rattle.clap.specs.declared.builder.range.ValueRange.{ValueRange}
use Rattle.clap.specs.declared.builder.value_parser.ValueParser.{ValueParser}

is_empty-cons : {X : Type 0} (x : X) (xs : List X) → is_empty (x ∷ xs) ≡ false
is_empty-cons x xs = grind (arith, nat_tests)

is_empty-append : {X : Type 0} (xs ys : List X) → is_empty (xs ++ ys) ≡ (is_empty xs && is_empty ys)
is_empty-append [] ys = refl
is_empty-append (x ∷ xs) ys =
    is_empty-cons x (xs ++ ys) ∙ ap (λ (b : Bool). b && is_empty ys) (sym (is_empty-cons x xs))

is_empty-map : {X Y : Type 0} (f : X → Y) (xs : List X) → is_empty xs ≡ is_empty (map f xs)
is_empty-map f [] = refl
is_empty-map f (x ∷ xs) = is_empty-cons x xs ∙ sym (is_empty-cons (f x) (map f xs))

-- a free argument that is bound to others in two ways is free where there is none
free_after : (e c n i j u v o : Bool) → (not e && (c && (n && (i && (j && (u && v)))))) ≡ true
    → (not e && ((c && o) && (n && (i && (j && ((u && o) && v)))))) ≡ o
free_after true c n i j u v o free = cc
free_after false false n i j u v o free = cc
free_after false true false i j u v o free = cc
free_after false true true false j u v o free = cc
free_after false true true true false u v o free = cc
free_after false true true true true false v o free = cc
free_after false true true true true true false o free = cc
free_after false true true true true true true true free = refl
free_after false true true true true true true false free = refl

-- the argument with a range, a parser and what binds it to others
abbrev whole : Arg → Arg → Arg → ValueRange → ValueParser → Arg
whole arg b r range parser = record arg {
  num_vals = Some range;
  value_parser = Some parser;
  r_unless = b.r_unless;
  conflicts = r.conflicts;
}

-- it is free where there is no other one
pub numbers_made : (arg a b r : Arg) (range : ValueRange) (parser : ValueParser) (others : List (Bor Text))
    → rule_of arg ≡ new_rule arg.id.now → a ≡ record arg { num_vals = Some range; value_parser = Some parser }
    → AddsRequiredUnless a b others → AddsConflicts b r others
    → rule_of r ≡ record (new_rule arg.id.now) {
      range = Some range;
      parser = Some parser;
      is_free = is_empty (map (λ other. other.now) others);
    }
numbers_made arg a b r range parser others plain made unless conflicts =
    ap rule_of is
    ∙ ap (λ (rule : Rule). with_those rule (is_free_arg (whole arg b r range parser))) plain
    ∙ ap (with_those (new_rule arg.id.now)) free
  where
    with_those : Rule → Bool → Rule
    with_those rule free = record rule { range = Some range; parser = Some parser; is_free = free }

    first : b ≡ record arg { num_vals = Some range; value_parser = Some parser; r_unless = b.r_unless }
    first = unless.0 ∙ ap (λ (x : Arg). record x { r_unless = b.r_unless }) made

    is : r ≡ whole arg b r range parser
    is = conflicts.0 ∙ ap (λ (x : Arg). record x { conflicts = r.conflicts }) first

    none_excluded : is_empty r.conflicts.items ≡ (is_empty arg.conflicts.items && is_empty others)
    none_excluded = ap is_empty conflicts.1 ∙ ap (λ (x : Arg). is_empty (x.conflicts.items ++ others)) first
        ∙ is_empty-append arg.conflicts.items others

    none_named : is_empty b.r_unless.items ≡ (is_empty arg.r_unless.items && is_empty others)
    none_named = ap is_empty unless.1 ∙ ap (λ (x : Arg). is_empty (x.r_unless.items ++ others)) made
        ∙ is_empty-append arg.r_unless.items others

    free : is_free_arg (whole arg b r range parser) ≡ is_empty (map (λ other. other.now) others)
    free = ap₂ (λ (c u : Bool). not arg.exclusive
        && (c && (is_empty arg.needs.items && (is_empty arg.r_ifs.items && (is_empty arg.r_ifs_all.items
        && (u && is_empty arg.r_unless_all.items)))))) none_excluded none_named
        ∙ free_after arg.exclusive (is_empty arg.conflicts.items) (is_empty arg.needs.items) (is_empty arg.r_ifs.items)
        (is_empty arg.r_ifs_all.items) (is_empty arg.r_unless.items) (is_empty arg.r_unless_all.items) (is_empty others)
        (ap (λ (rule : Rule). rule.is_free) plain)
        ∙ is_empty-map (λ other. other.now) others

-- what an option has that fits one value alone
pub some_value : {T : Type 0} (o : Option T) (x : T) → IsSomeAnd o (λ y. y ≡ x) → o ≡ Some x
some_value None x has = absurd has
some_value (Some y) x has = ap Some has
