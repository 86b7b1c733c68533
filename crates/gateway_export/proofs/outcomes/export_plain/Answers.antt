use Rattle.std.proofs.Common.{◌≡◌, ℕ, List, Some, rules, subst}
use Rattle.std.specs.Prelude.{string_bytes}
use Rattle.gateway_export.specs.Exporting.{TellsOf, ToldOne, differs_one, is_other, is_unread}
use Rattle.gateway_export.proofs.Exported.{of_some}
use Rattle.gateway_export.proofs.outcomes.export_plain.Goals as goal

pub returns-in-Some-clause-differs : goal.returns-in-Some-clause-differs
returns-in-Some-clause-differs g c w represents files held =
    let named : c.as_str.result.now ≡ string_bytes c.args.job.now.plain = search rules in
    let n = c.args.job.now.number in
    subst (λ (name : List ℕ). TellsOf (is_other c.in-Some.outcome) (is_unread c.in-Some.outcome)
    (differs_one w.store files (n, Some name))) named
    (of_some (λ outcome. TellsOf (is_other outcome) (is_unread outcome)
    (differs_one w.store files (n, Some c.as_str.result.now))) c.in_ok-outcome.field-0 c.in-Some.outcome c.in-Some.is
    (c.in_ok-outcome.ensures.differs w represents files held))

pub returns-in-Some-clause-told : goal.returns-in-Some-clause-told
returns-in-Some-clause-told g c w represents files held =
    let named : c.as_str.result.now ≡ string_bytes c.args.job.now.plain = search rules in
    let n = c.args.job.now.number in
    subst (λ (name : List ℕ). ToldOne w.store files (n, Some name) c.in-Some.outcome) named
    (of_some (λ outcome. ToldOne w.store files (n, Some c.as_str.result.now) outcome) c.in_ok-outcome.field-0
    c.in-Some.outcome c.in-Some.is (c.in_ok-outcome.ensures.told w represents files held))
