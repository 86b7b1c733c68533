use Rattle.std.proofs.Common.{arith}
use Rattle.upload_rules.proofs.Places.{place_found}
use Rattle.upload_rules.proofs.slots.place_of.Goals as goal

pub returns-clause-place : goal.returns-clause-place
returns-clause-place c = λ rising.
    place_found c.args.slots.now c.args.number c.in_ok-place.place c.places_to.result c.index-slots-place.result
    c.then_some.result rising (c.places_to.ensures.divided rising)
    (omega (arith, c.in_ok-place.ensures.0, c.in_ok-place.ensures.1))
    (omega (arith, c.in_ok-place.ensures.0, c.in_ok-place.ensures.1, c.places_to.ensures.within)) c.then_some.ensures
