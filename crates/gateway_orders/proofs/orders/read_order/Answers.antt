use Rattle.std.proofs.Common.{◌≡◌, ◌∙◌, ap, sym, subst, IfOk, IfSome, List, Option, true, map, string_bytes}
use Rattle.std.specs.Prelude.{IsSomeAnd}
use Rattle.clap.specs.Words.{app_of, found_of, is_simple, rows_of, subcommand_of, subcommand_rows_of}
use Rattle.clap.specs.Walk.{Row, Text}
use Rattle.clap.specs.Simple.{App}
use Rattle.gateway_orders.specs.Orders.{IsOrder}
use Rattle.gateway_orders.specs.Program.{program}
use Rattle.gateway_orders.proofs.Simple.{program_is_simple}
use Rattle.gateway_orders.proofs.Entered.{entered_as}
use Rattle.gateway_orders.proofs.orders.read_order.Goals as goal

pub returns-in-Some : goal.returns-in-Some
returns-in-Some c =
    let words : List Text = map string_bytes c.args.words.now in
    let command = c.in_ok-gateway.field-0 in
    let is : app_of command ≡ program = c.in_ok-gateway.ensures in
    let simple : is_simple (app_of command) ≡ true = ap is_simple is ∙ program_is_simple in
    let matches = c.in_ok-matches.matches in
    let walked : subcommand_rows_of matches ≡ subcommand_of (app_of command) words =
    (c.in_ok-matches.ensures.matches simple).1 in
    let entered = entered_as matches c.in-Some.name.now (rows_of (found_of c.in-Some.given.now))
    c.in-Some.ensures.name c.in-Some.ensures.rows in
    let found = ap (λ (app : App). subcommand_of app words) (sym is) ∙ sym walked ∙ entered in
    subst (λ (o : Option (Text × List Row)).
    IfOk c.order_of.result (λ read. IfSome read (λ order. IsSomeAnd o (λ e. IsOrder e.0 e.1 order))))
    (sym found) c.order_of.ensures
