use Rattle.std.proofs.Common.{◌≡◌, ◌<◌, ℕ, Bool, List, get_or}
use Rattle.std.specs.declared.time.Duration.{Duration}
use Rattle.tus_session.specs.History.{State, Marked}
use Rattle.gateway_serve.specs.Counted.{Adds, count_closed}
use Rattle.gateway_serve.specs.Joined.{AllFell}
use Rattle.gateway_serve.specs.Streams.{AllPreserve}
use Rattle.gateway_serve.specs.Partings.{count_draining}
use Rattle.gateway_serve.specs.Reasons.{EndedOnce}
use Rattle.gateway_serve.specs.declared.places.Place.TheVariants.{Free}
use Rattle.gateway_serve.proofs.All.{HalfLeft}
use Rattle.gateway_serve.proofs.rounds.free_each.Given as goal

abbrev pub invariant-loop-conn : goal.invariant-loop-conn
invariant-loop-conn g l =
    ((sure : Bool) (refused : ℕ) (st : State) (past : List Marked)
    → AllFell sure l.fn.places l.fn.ended.items refused st past
    → HalfLeft sure l.conn l.places l.ended.items st past)
    × ((times : List Duration) → AllPreserve g.S.Read.remaining g.S.Write.contents times l.fn.places l.places
    l.fn.ended.items l.ended.items)
    × EndedOnce l.fn.ended.items l.conn l.ended.items
    × Adds l.fn.places l.places l.fn.ended.items l.ended.items
    × (count_closed l.ended.items ≡ count_closed l.fn.ended.items)
    × ((k : ℕ) → k < l.conn → get_or l.places k Free ≡ Free)
    × (count_draining l.ended.items ≡ count_draining l.fn.ended.items)
