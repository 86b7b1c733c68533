-- The lines of a script, as the code has them.
use Rattle.std.specs.Prelude.{ℕ, List, [], ◌∷◌, ◌++◌}
use Rattle.common.specs.Splits.{before, rest_after}
use Rattle.gateway_script.specs.Script.{Order, Skip, Open, Give, Hang, Bad, order_with, conn_number, give_hex}
use Rattle.gateway_script.specs.Script.{hex_bytes}
use Rattle.gateway_script.specs.declared.orders.Order as code
use Rattle.gateway_script.specs.declared.orders.Order.TheVariants as orders

abbrev pub order_shown : code.Order → Order
order_shown orders.Skip = Skip
order_shown (orders.Open n) = Open n
order_shown (orders.Give n bytes) = Give n bytes.items
order_shown (orders.Cut n) = Hang n
order_shown orders.Bad = Bad

-- what follows `say` and `came`
abbrev pub say_of : List ℕ → Order
say_of rest = order_with (λ n. Give n (rest_after 32 rest ++ (13 ∷ 10 ∷ []))) (conn_number (before 32 rest))

abbrev pub came_order : List ℕ → Order
came_order rest = order_with (give_hex (hex_bytes (rest_after 32 rest))) (conn_number (before 32 rest))
