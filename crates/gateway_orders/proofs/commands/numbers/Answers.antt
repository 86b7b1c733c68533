use Rattle.std.proofs.Common.{◌≡◌, ◌∙◌, Option, Some, ap}
use Rattle.std.proofs.lemmas.Result.{IfOk-weaker}
use Rattle.clap.specs.Lexer.{usize_max}
use Rattle.clap.specs.declared.builder.arg.Arg.{Arg}
use Rattle.clap.specs.declared.builder.range.ValueRange.{ValueRange}
use Rattle.clap.specs.declared.builder.value_parser.ValueParser.{ValueParser}
use Rattle.clap.specs.declared.builder.value_parser.ValueParser.TheVariants.{Unsigned}
use Rattle.gateway_orders.proofs.Free.{numbers_made, some_value}
use Rattle.gateway_orders.proofs.commands.numbers.Goals as goal

pub returns : goal.returns
returns c =
    let arg : Arg = c.args.arg in
    let made : Arg = c.value_parser-2.result in
    let range : ValueRange = record { start_inclusive = 1; end_inclusive = usize_max } in
    let parser : ValueParser = Unsigned 0 18446744073709551615 in
    let ranged : c.num_args.result.num_vals ≡ Some range =
    some_value c.num_args.result.num_vals range c.num_args.ensures.1 in
    let given = c.value_parser-2.ensures.given in
    let parsed : made.value_parser ≡ Some parser = given.1 ∙ ap Some (given.2 ∙ c.value_parser.ensures) in
    let is : made ≡ record arg { num_vals = Some range; value_parser = Some parser } =
    c.value_parser-2.ensures.others
    ∙ ap (λ (x : Arg). record x { value_parser = made.value_parser })
    (c.num_args.ensures.0 ∙ ap (λ (o : Option ValueRange). record arg { num_vals = o }) ranged)
    ∙ ap (λ (o : Option ValueParser). record arg { num_vals = Some range; value_parser = o }) parsed in
    let named = c.in_ok-required_unless_present_any in
    IfOk-weaker c.conflicts_with_all.result _ _
    (λ r adds. numbers_made arg made named.field-0 r range parser c.args.others.now c.requires is named.ensures adds)
    c.conflicts_with_all.ensures
