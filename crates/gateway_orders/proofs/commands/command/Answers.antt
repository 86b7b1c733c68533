use Rattle.std.proofs.Common.{◌≡◌, ◌∙◌, ap, ap₂, arith, length, ◌≤◌, map, take_all, true}
use Rattle.std.proofs.lemmas.Result.{IfOk-weaker}
use Rattle.clap.specs.Words.{rule_of, shape_of}
use Rattle.clap.specs.Simple.{App, new_shape, shape_of_fields}
use Rattle.gateway_orders.specs.Program.{rule_for}
use Rattle.gateway_orders.proofs.Adding.{all_simple, args_added, with_rules}
use Rattle.gateway_orders.proofs.Simple.{rules_are_simple}
use Rattle.gateway_orders.proofs.commands.command.Goals as goal

pub returns : goal.returns
returns c =
    let described = c.args.described.now in
    let args = c.loop-given.args.items in
    let rules : map rule_of args ≡ map rule_for described.takes.now =
    let past : length described.takes.now ≤ c.loop-given.given-index = omega arith in
    c.loop-given.invariant ∙ ap (map rule_for) (take_all c.loop-given.given-index described.takes.now past) in
    let simple : all_simple (map rule_of args) ≡ true = ap all_simple rules ∙ rules_are_simple described.takes.now in
    let bare : shape_of c.after_help.result ≡ new_shape described.name.now =
    ap shape_of_fields c.after_help.ensures ∙ ap shape_of_fields c.about.ensures
    ∙ ap (λ (app : App). app.top) c.new.ensures.app in
    IfOk-weaker c.args-2.result _ _
    (λ command adds. args_added c.after_help.result command args adds simple ∙ ap₂ with_rules bare rules)
    c.args-2.ensures
