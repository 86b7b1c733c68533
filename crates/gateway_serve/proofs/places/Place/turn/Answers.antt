use Rattle.std.proofs.Common.{Result, Ok, Err}
use Rattle.common.specs.declared.stop.DiskFault.{DiskFault}
use Rattle.gateway_serve.specs.Acceptors.{waits_in}
use Rattle.gateway_serve.specs.Joined.{PlaceJoins, PlaceFell}
use Rattle.gateway_serve.specs.Sockets.{current_of}
use Rattle.gateway_serve.proofs.After.{alone_after}
use Rattle.gateway_serve.proofs.Lost.{lost_reason}
use Rattle.gateway_serve.proofs.Times.{turn_among}
use Rattle.gateway_serve.proofs.places.Place.turn.Goals as goal

pub returns-in-Ok-clause-serves : goal.returns-in-Ok-clause-serves
returns-in-Ok-clause-serves g c = λ sure before st past went joins.
    let n = c.args.conn in
    let ended = current_of n c.args.ended.now.items in
    let ended' = current_of n c.end.new.ended.items in
    let reported : Result (Unit {0}) DiskFault = Ok tt in
    let s = c.in-Ok-Lost.ensures.serves sure before st past ended went (rw c.in-Open.is at joins) in
    alone_after g.C.Connections sure before c.end.new.gateway st n past s.0
    (λ p. PlaceJoins sure c.end.new.self ended' st p n) (λ p. PlaceFell sure c.end.new.self ended' st p n) reported
    s.2.0
    (c.in-Ok.ensures.serves sure before st s.0 s.1 s.2.1)

pub returns-in-Err-end-clause-serves : goal.returns-in-Err-end-clause-serves
returns-in-Err-end-clause-serves g c = λ sure before st past went joins.
    let n = c.args.conn in
    let ended = current_of n c.args.ended.now.items in
    let ended' = current_of n c.end.new.ended.items in
    let reported : Result (Unit {0}) DiskFault = Err c.in-Err-end.fault in
    let s = c.in-Ok-Lost.ensures.serves sure before st past ended went (rw c.in-Open.is at joins) in
    alone_after g.C.Connections sure before c.end.new.gateway st n past s.0
    (λ p. PlaceJoins sure c.end.new.self ended' st p n) (λ p. PlaceFell sure c.end.new.self ended' st p n) reported
    s.2.0
    (c.in-Err-end.ensures.serves sure before st s.0 s.1 s.2.1)

pub returns-in-Ok-clause-reasons : goal.returns-in-Ok-clause-reasons
returns-in-Ok-clause-reasons g c = λ times done turn has all.
    let was = rw c.in-Open.is at has in
    let among = turn_among c.args.tick.now c.args.tick.wanted times (waits_in done) turn in
    rw c.end.ensures.ended (
      lost_reason times done c.args.conn c.turn.new.self c.args.tick c.in-Ok-Lost.gone turn
          (c.turn.ensures.times times among was.2) (rw c.in-Ok-Lost.field-0-is at c.in-Ok-Lost.ensures.lost),
      all,
    )

pub returns-in-Err-end-clause-reasons : goal.returns-in-Err-end-clause-reasons
returns-in-Err-end-clause-reasons g c = λ times done turn has all.
    let was = rw c.in-Open.is at has in
    let among = turn_among c.args.tick.now c.args.tick.wanted times (waits_in done) turn in
    rw c.end.ensures.ended (
      lost_reason times done c.args.conn c.turn.new.self c.args.tick c.in-Ok-Lost.gone turn
          (c.turn.ensures.times times among was.2) (rw c.in-Ok-Lost.field-0-is at c.in-Ok-Lost.ensures.lost),
      all,
    )
