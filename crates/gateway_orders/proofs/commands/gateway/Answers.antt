use Rattle.std.proofs.Common.{◌≡◌, ◌∙◌, ap, ap₂, codes, map, true}
use Rattle.std.proofs.lemmas.Result.{IfOk-weaker}
use Rattle.clap.specs.Words.{app_of, shape_of}
use Rattle.clap.specs.Simple.{App, app_of_fields, new_app}
use Rattle.gateway_orders.specs.Program.{shape_for, shapes}
use Rattle.gateway_orders.proofs.Adding.{all_plain, commands_added, with_commands}
use Rattle.gateway_orders.proofs.commands.gateway.Goals as goal

abbrev versioned : App → App
versioned app = record app { top = record app.top { has_version = true } }

abbrev requiring : App → App
requiring app = record app { top = record app.top { subcommand_required = true } }

pub returns : goal.returns
returns c =
    let commands = c.in_ok-commands.commands.items in
    let all : map shape_of commands ≡ shapes = c.in_ok-commands.ensures ∙ ap (map shape_for) c.as_slice.ensures in
    let plain : all_plain (map shape_of commands) ≡ true = ap all_plain all in
    let named : app_of c.in_ok-bin_name.field-0 ≡ new_app (codes "gateway") =
    ap app_of_fields c.in_ok-bin_name.ensures.0 ∙ c.new.ensures.app in
    let helped : app_of c.after_help.result ≡ app_of c.version.result =
    ap app_of_fields c.after_help.ensures ∙ ap app_of_fields c.about.ensures in
    let numbered : app_of c.version.result ≡ versioned (app_of c.in_ok-bin_name.field-0) =
    ap app_of_fields c.version.ensures in
    let bare : app_of c.subcommand_required.result ≡ requiring (versioned (new_app (codes "gateway"))) =
    ap app_of_fields c.subcommand_required.ensures ∙ ap requiring (helped ∙ numbered ∙ ap versioned named) in
    IfOk-weaker c.subcommands.result _ _
    (λ command adds. commands_added _ command commands adds plain ∙ ap₂ with_commands bare all)
    c.subcommands.ensures
