use Rattle.std.proofs.Common.{◌≡◌, ◌∙◌, ◌||◌, ℕ, List, Bool, true, false, eqb, refl, rules, tests}
use Rattle.std.specs.Prelude.{if◌then◌else◌}
use Rattle.std.specs.List.{list_any}
use Rattle.std.proofs.lemmas.Iterator.{YieldsList-from_slice}
use Rattle.std.proofs.lemmas.Iterator.Search.{any_from_yields_List}
use Rattle.std.proofs.lemmas.List.Recursion.{same_from_clauses}
use Rattle.gateway_delete.specs.Deleting.{is_among}
use Rattle.gateway_delete.proofs.incomplete.is_one_of.Goals as goal

or_step : (b c : Bool) → (b || c) ≡ (if b then true else c)
or_step true c = refl
or_step false c = refl

among_is : (n : ℕ) (numbers : List ℕ) → list_any (eqb n) numbers ≡ is_among numbers n
among_is n =
    same_from_clauses (list_any (eqb n)) (λ numbers. is_among numbers n) (λ k rest. if eqb n k then true else rest) refl
    (λ k rest. or_step (eqb n k) (list_any (eqb n) rest)) (λ k rest. refl)

pub returns : goal.returns
returns c =
    any_from_yields_List (eqb c.args.number) _ _ c.any.result c.any.ensures.ran
    (YieldsList-from_slice c.args.numbers.now cc) (λ x b q k. search (rules, tests))
    ∙ among_is c.args.number c.args.numbers.now
