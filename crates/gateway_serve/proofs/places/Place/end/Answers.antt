use Rattle.std.proofs.Common.{◌≡◌, false, true, List, refl}
use Rattle.tus_session.specs.History.{Ended, Marked}
use Rattle.gateway_serve.specs.Joined.{Alone, PlaceJoins, PlaceFell}
use Rattle.gateway_serve.specs.Sockets.{current_of}
use Rattle.gateway_serve.specs.declared.places.Place.TheVariants.{Free}
use Rattle.gateway_serve.proofs.After.{surely, served}
use Rattle.gateway_serve.proofs.Talks.{alone_step}
use Rattle.gateway_serve.proofs.Freed.{reported_place, fallen_place}
use Rattle.gateway_serve.proofs.places.Place.end.Goals as goal

pub returns-clause-serves : goal.returns-clause-serves
returns-clause-serves g c = λ sure before st past went joins.
    let n = c.args.conn in
    let ended = c.args.ended.now.items in
    let ended' = c.free.new.ended.items in
    let does = c.ended.ensures.does sure _ went.represents in
    let used : c.args.self.now ≡ Free → ⊥ = λ e. let f : false ≡ true = c.if-is_free.ensures.1 e in absurd (cc) in
    served g.C.Connections sure before c.args.gateway.now c.ended.new.self st past (Ended n) went
    (λ known ms among. g.met.C.Connections.durable c.args.gateway.now _ ms (surely went known) among)
    (λ (now : List Marked). Alone sure st n past now × PlaceJoins sure c.free.new.self (current_of n ended') st now n)
    (λ (now : List Marked). Alone sure st n past now × PlaceFell sure c.free.new.self (current_of n ended') st now n)
    c.ended.result c.unless_failed.result c.unless_failed.ensures does.now_represents
    (λ known. c.ended.ensures.crash _ (surely went known)) c.ended.ensures.falls
    (λ ok. (
      alone_step sure st past (Ended n) _ refl,
      reported_place sure ended st past n c.args.reason c.args.self.now c.free.new.self ended'
          c.ended.result c.free.ensures.free c.free.ensures.ended c.requires c.free.ensures.waiting used ok joins,
    ))
    (λ fails. (
      alone_step sure st past (Ended n) _ refl,
      fallen_place sure ended st past n c.args.reason c.args.self.now c.free.new.self ended' _
          c.free.ensures.free c.free.ensures.ended c.requires c.free.ensures.waiting used joins,
    ))
