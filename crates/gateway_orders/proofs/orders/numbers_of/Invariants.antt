use Rattle.std.proofs.Common.{List, ℕ, ◌++◌}
use Rattle.clap.specs.Words.{found_of, rows_of, values_left}
use Rattle.gateway_orders.specs.Given.{HasNumbers, WriteAll}
use Rattle.gateway_orders.proofs.orders.numbers_of.Given as goal

-- whatever numbers the texts that are left write, they are the rest of the numbers
abbrev pub invariant-loop-number : goal.invariant-loop-number
invariant-loop-number l =
    (rest : List ℕ) → WriteAll 64 (values_left l.number-iterator) rest
    → HasNumbers 64 (rows_of (found_of l.given)) l.name (l.numbers.items ++ rest)
