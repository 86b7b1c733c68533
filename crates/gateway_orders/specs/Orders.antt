-- The order of a command, by its name and what is given for each of its arguments.
use Rattle.std.specs.Prelude.{◌≡◌, true, false, List, IsSomeAnd, codes}
use Rattle.std.specs.Net.Grammar.{IsSocketText}
use Rattle.clap.specs.Simple.{subcommand_of}
use Rattle.clap.specs.Walk.{Row, Text, first_of}
use Rattle.gateway_orders.specs.Given.{HasArgument, HasFlag, HasNumber, HasNumberIfAny, HasNumbers, HasNumbersIfAny}
use Rattle.gateway_orders.specs.Program.{program}
use Rattle.gateway_orders.specs.declared.orders.Order.{Order}
use Rattle.gateway_orders.specs.declared.orders.Order.TheVariants.{Format, Script, Serve, Up, Upgrade, Json}
use Rattle.gateway_orders.specs.declared.orders.Order.TheVariants.{Delete, DeleteIncomplete, Export, Labels, Raise}
use Rattle.gateway_orders.specs.declared.orders.Order.TheVariants as orders

-- the order is the one that belongs to the command of this name with these arguments
abbrev pub IsOrder : Text → List Row → Order → Type 0
IsOrder name given (Format spool blocks indexes overwrite standard first) = (name ≡ codes "format")
    × HasArgument given (codes "SPOOL") spool.now × HasNumber 32 given (codes "blocks") blocks
    × HasArgument given (codes "indexes") indexes.now × HasFlag given (codes "overwrite") overwrite
    × HasFlag given (codes "standard-indexes") standard × HasNumberIfAny 64 given (codes "first") first
IsOrder name given (Script spool) = (name ≡ codes "script") × HasArgument given (codes "SPOOL") spool.now
IsOrder name given (Serve service) = (name ≡ codes "serve") × HasArgument given (codes "SPOOL") service.spool.now
    × HasNumber 16 given (codes "port") service.port
    × HasNumber 64 given (codes "connections") service.connections
    × HasNumber 64 given (codes "turns") service.turns
IsOrder name given (Up spool listen quiet log) = (name ≡ codes "up") × HasArgument given (codes "SPOOL") spool.now
    × IsSomeAnd (first_of (codes "listen") given) (λ text. IsSocketText text listen)
    × HasFlag given (codes "quiet") quiet × HasFlag given (codes "log") log
IsOrder name given (orders.List spool long) = (name ≡ codes "list") × HasArgument given (codes "SPOOL") spool.now
    × HasFlag given (codes "json") false × HasFlag given (codes "long") long
IsOrder name given (Json spool) = (name ≡ codes "list") × HasArgument given (codes "SPOOL") spool.now
    × HasFlag given (codes "json") true
IsOrder name given (Delete spool numbers) = (name ≡ codes "delete") × HasArgument given (codes "SPOOL") spool.now
    × HasFlag given (codes "incomplete") false × HasNumbers 64 given (codes "NUMBER") numbers.items
IsOrder name given (DeleteIncomplete spool but sure) = (name ≡ codes "delete")
    × HasArgument given (codes "SPOOL") spool.now
    × HasFlag given (codes "incomplete") true × HasNumbersIfAny 64 given (codes "but") but.items
    × HasFlag given (codes "yes") sure
IsOrder name given (Export spool folder all) = (name ≡ codes "export") × HasArgument given (codes "SPOOL") spool.now
    × HasArgument given (codes "DIR") folder.now × HasFlag given (codes "all") all
IsOrder name given (Labels indexes all json) = (name ≡ codes "labels")
    × HasArgument given (codes "indexes") indexes.now × HasFlag given (codes "all") all
    × HasFlag given (codes "json") json
IsOrder name given (orders.Text from to mode indexes strict) = (name ≡ codes "text")
    × HasArgument given (codes "from") from.now × HasArgument given (codes "to") to.now
    × HasArgument given (codes "mode") mode.now × HasArgument given (codes "indexes") indexes.now
    × HasFlag given (codes "strict") strict
IsOrder name given (Upgrade spool) = (name ≡ codes "upgrade") × HasArgument given (codes "SPOOL") spool.now
IsOrder name given (Raise spool number) = (name ≡ codes "raise") × HasArgument given (codes "SPOOL") spool.now
    × HasNumber 64 given (codes "NUMBER") number

-- THE ORDER OF A COMMAND LINE: that of the command which clap's walk over the words enters, with what it gives for each
-- argument
abbrev pub IsOrderOf : List Text → Order → Type 0
IsOrderOf words order = IsSomeAnd (subcommand_of program words) (λ entered. IsOrder entered.0 entered.1 order)
