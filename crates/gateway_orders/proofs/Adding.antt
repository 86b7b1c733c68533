-- What clap reads of a command to which arguments or commands were added.
use Rattle.std.proofs.Common.{◌≡◌, ◌∙◌, ◌<◌, ◌+◌, ℕ, Bool, List, [], ◌∷◌, ◌++◌, true, ap, ap₂, sym}
use Rattle.std.proofs.Common.{append-nil, append_assoc, get_or, length, map, take}
use Rattle.std.proofs.lemmas.List.{map-append, take_more}
use Rattle.std.specs.List.{list_all}
use Rattle.clap.specs.Walk.{Rule, rule_of}
use Rattle.clap.specs.Built.{AddsArg, AddsInTurn, AddsSubcommand}
use Rattle.clap.specs.Simple.{App, Shape, app_of, shape_of, with_subcommand}
use Rattle.clap.specs.declared.builder.arg.Arg.{Arg}
use Rattle.clap.specs.declared.builder.command.Command.{Command}
use Rattle.gateway_orders.proofs.Simple.{and_left, and_right, plain_is_local, simple_is_local}

-- one more made of the next
pub one_more : {X Y Z : Type 0} (f : X → Z) (g : Y → Z) (made now : List X) (x : X) (ys : List Y) (i : ℕ) (d : Y)
    → map f made ≡ map g (take i ys) → i < length ys → now ≡ made ++ x ∷ [] → f x ≡ g (get_or ys i d)
    → map f now ≡ map g (take (i + 1) ys)
one_more f g made now x ys i d so_far below pushed here =
    ap (map f) pushed ∙ map-append f made (x ∷ []) ∙ ap₂ (λ zs z. zs ++ z ∷ []) so_far here
    ∙ sym (ap (map g) (take_more ys i d below) ∙ map-append g (take i ys) (get_or ys i d ∷ []))

-- each of these arguments is simple, and each of these commands plain
abbrev pub all_simple : List Rule → Bool
all_simple = list_all (λ r. r.is_simple)

abbrev pub all_plain : List Shape → Bool
all_plain = list_all (λ s. s.is_plain)

-- more arguments, and more commands
abbrev pub with_rules : Shape → List Rule → Shape
with_rules shape rules = record shape { rules = shape.rules ++ rules }

-- arguments that are simple
pub args_added : (old new : Command) (args : List Arg) → AddsInTurn AddsArg old args new
    → all_simple (map rule_of args) ≡ true → shape_of new ≡ with_rules (shape_of old) (map rule_of args)
args_added old new [] adds simple =
    ap shape_of (sym adds)
    ∙ ap (λ (rules : List Rule). record (shape_of old) { rules = rules }) (sym (append-nil (shape_of old).rules))
args_added old new (arg ∷ args) adds simple =
    let rules = map rule_of args in
    let is_local = simple_is_local arg (and_left (rule_of arg).is_simple (all_simple rules) simple) in
    let rest = args_added adds.0 new args adds.2 (and_right (rule_of arg).is_simple (all_simple rules) simple) in
    let first : shape_of adds.0 ≡ with_rules (shape_of old) (rule_of arg ∷ []) =
    ap (λ (app : App). app.top) (adds.1.shape is_local) in
    rest ∙ ap (λ (shape : Shape). with_rules shape rules) first
    ∙ ap (λ (all : List Rule). record (shape_of old) { rules = all })
    (append_assoc (shape_of old).rules (rule_of arg ∷ []) rules)

abbrev pub with_commands : App → List Shape → App
with_commands app [] = app
with_commands app (shape ∷ shapes) = with_commands (with_subcommand app shape) shapes

-- commands that are plain
pub commands_added : (old new : Command) (commands : List Command) → AddsInTurn AddsSubcommand old commands new
    → all_plain (map shape_of commands) ≡ true → app_of new ≡ with_commands (app_of old) (map shape_of commands)
commands_added old new [] adds plain = ap app_of (sym adds)
commands_added old new (command ∷ commands) adds plain =
    let shapes = map shape_of commands in
    let is_local = plain_is_local command (and_left (shape_of command).is_plain (all_plain shapes) plain) in
    let all = and_right (shape_of command).is_plain (all_plain shapes) plain in
    let rest = commands_added adds.0 new commands adds.2 all in
    rest ∙ ap (λ (app : App). with_commands app shapes) (adds.1.shape is_local)
