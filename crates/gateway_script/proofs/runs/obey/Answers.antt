use Rattle.gateway_script.proofs.runs.obey.Goals as goal

pub returns-in-Open-clause-does : goal.returns-in-Open-clause-does
returns-in-Open-clause-does g c = λ sure before st r prefix at.
    rw c.in-Open.is (c.open.ensures.does sure before st r prefix at)

pub returns-in-Give-clause-does : goal.returns-in-Give-clause-does
returns-in-Give-clause-does g c = λ sure before st r prefix at.
    rw (c.in-Give.is, ← c.deref.ensures.value) (c.give.ensures.does sure before st r prefix at)

pub returns-in-Cut-clause-does : goal.returns-in-Cut-clause-does
returns-in-Cut-clause-does g c = λ sure before st r prefix at.
    rw c.in-Cut.is (c.cut.ensures.does sure before st r prefix at)
