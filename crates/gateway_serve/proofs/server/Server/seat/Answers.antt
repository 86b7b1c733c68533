use Rattle.std.proofs.Common.{◌≡◌, ◌+◌, Result, Ok, Err, is_some, refl, ap, arith, length}
use Rattle.common.specs.declared.stop.DiskFault.{DiskFault}
use Rattle.tus_session.specs.History.{Opened}
use Rattle.tus_session.specs.declared.errors.SessionError.{SessionError}
use Rattle.tus_session.proofs.Limiting.{quiet_limits}
use Rattle.gateway_serve.specs.Counted.{one_if_open}
use Rattle.gateway_serve.specs.Acceptors.{done_of, passes_of}
use Rattle.gateway_serve.specs.Gone.{IsAmong}
use Rattle.gateway_serve.specs.Turns.{door_of, refused_by, times_of}
use Rattle.gateway_serve.proofs.Carries.{is_of_has, set_has}
use Rattle.gateway_serve.proofs.NextTurn.{let_in_one, turn_with}
use Rattle.gateway_serve.specs.declared.doors.Clients.{Clients}
use Rattle.gateway_serve.proofs.Counted.{counted_on, free_open, opens_one}
use Rattle.gateway_serve.specs.Joined.{AllJoin, AllFell, places_of, ended_of}
use Rattle.gateway_serve.proofs.After.{surely, GoesOn, served}
use Rattle.gateway_serve.proofs.All.{same_join, all_opened, all_unopened, all_fall}
use Rattle.gateway_serve.proofs.server.Server.seat.Goals as goal

pub returns-in_default-clause-serves : goal.returns-in_default-clause-serves
returns-in_default-clause-serves g c = λ sure before st past went joins. (
  past,
  went,
  same_join sure (places_of c.args.self.now) (places_of c.next_place.new.self) (ended_of c.args.self.now)
      (ended_of c.next_place.new.self) st past (refused_by c.args.self.now) (refused_by c.next_place.new.self)
      c.next_place.ensures.same c.next_place.ensures.rest.ended
      (ap (λ (k : Clients). k.refused) c.next_place.ensures.rest.clients) joins,
)

pub returns-in-Ok-clause-serves : goal.returns-in-Ok-clause-serves
returns-in-Ok-clause-serves g c = λ sure before st past went joins.
    let n = c.in-Some.conn in
    let ended = ended_of c.next_place.new.self in
    let refused = refused_by c.next_place.new.self in
    let reported : Result (Unit {0}) DiskFault = Ok tt in
    let does = c.opened.ensures.does sure _ went.represents in
    let goes : GoesOn c.opened.result reported = (λ e. absurd (cc), λ f. let x = c.in-Ok.is in absurd (cc)) in
    let all = same_join sure (places_of c.args.self.now) (places_of c.next_place.new.self)
    (ended_of c.args.self.now) ended st past (refused_by c.args.self.now) refused c.next_place.ensures.same
    c.next_place.ensures.rest.ended (ap (λ (k : Clients). k.refused) c.next_place.ensures.rest.clients) joins in
    served g.C.Connections sure before c.args.gateway.now c.opened.new.self st past (Opened n) went
    (λ known ms among. g.met.C.Connections.durable c.args.gateway.now _ ms (surely went known) among)
    _ (λ now. Unit {0}) c.opened.result reported goes does.now_represents
    (λ known. quiet_limits _ _ c.opened.ensures.crash) c.opened.ensures.falls
    (λ ok. all_opened sure (places_of c.next_place.new.self) n ended refused st past c.opened.result does.answer all
    c.in-Some.ensures.free.1 c.open.result c.in-Some.ensures.free.0 c.open.ensures.none tt c.in-Ok.is)
    (λ fails. tt)

pub returns-in-Err-clause-serves : goal.returns-in-Err-clause-serves
returns-in-Err-clause-serves g c = λ sure before st past went joins.
    let n = c.in-Some.conn in
    let ended = ended_of c.next_place.new.self in
    let refused = refused_by c.next_place.new.self in
    let answer : Result (Unit {0}) SessionError = Err c.in-Err.error in
    let does = c.in-Err.ensures.does sure _ went.represents in
    let all = same_join sure (places_of c.args.self.now) (places_of c.next_place.new.self)
    (ended_of c.args.self.now) ended st past (refused_by c.args.self.now) refused c.next_place.ensures.same
    c.next_place.ensures.rest.ended (ap (λ (k : Clients). k.refused) c.next_place.ensures.rest.clients) joins in
    let unchanged = all_unopened sure (places_of c.next_place.new.self) n ended refused st past answer does.answer all
    c.in-Some.ensures.free.1 c.in-Err.error refl in
    served g.C.Connections sure before c.args.gateway.now c.opened.new.self st past (Opened n) went
    (λ known ms among. g.met.C.Connections.durable c.args.gateway.now _ ms (surely went known) among)
    (AllJoin sure (places_of c.next_place.new.self) ended (refused + 1) st)
    (AllFell sure (places_of c.next_place.new.self) ended (refused + 1) st)
    answer c.unless_failed.result c.unless_failed.ensures does.now_represents
    (λ known. quiet_limits _ _ c.opened.ensures.crash) c.in-Err.ensures.falls
    (λ ok. unchanged) (λ fails. all_fall sure (places_of c.next_place.new.self) ended (refused + 1) st _ unchanged)

pub returns-in-Ok-clause-streams : goal.returns-in-Ok-clause-streams
returns-in-Ok-clause-streams g c = λ among has.
    let rest = c.next_place.ensures.rest in
    let times = times_of c.next_place.new.self in
    let began : IsAmong c.next_place.new.self.watch.now times = rw (rest.times, rest.watch) among in
    let here = is_of_has g.S.Read.remaining g.S.Write.contents times c.in-Some.socket c.open.result
    (c.open.ensures.stream times began) in (
      set_has g.S.Read.remaining g.S.Write.contents times (places_of c.next_place.new.self) c.in-Some.conn c.open.result
          c.in-Some.ensures.free.0 here (λ n. rw (rest.times, c.next_place.ensures.same n) (has.0 n)),
      rw (rest.times, rest.ended) has.1,
    )

pub returns-in_default-clause-counted : goal.returns-in_default-clause-counted
returns-in_default-clause-counted g c counted =
    counted_on (ap (λ (k : Clients). k.opened) c.next_place.ensures.rest.clients)
    (ap length c.next_place.ensures.rest.ended) c.next_place.ensures.open counted

pub returns-in-Ok-clause-counted : goal.returns-in-Ok-clause-counted
returns-in-Ok-clause-counted g c counted =
    let opened : one_if_open c.open.result ≡ 1 = opens_one c.open.result c.open.ensures.none in
    let more = free_open (places_of c.next_place.new.self) c.in-Some.conn c.open.result c.in-Some.ensures.free.0
    c.in-Some.ensures.free.1 opened in
    omega (
      arith,
      counted,
      more,
      c.next_place.ensures.open,
      ap (λ (k : Clients). k.opened) c.next_place.ensures.rest.clients,
      ap length c.next_place.ensures.rest.ended,
    )

pub returns-in-Err-clause-counted : goal.returns-in-Err-clause-counted
returns-in-Err-clause-counted g c counted =
    counted_on (ap (λ (k : Clients). k.opened) c.next_place.ensures.rest.clients)
    (ap length c.next_place.ensures.rest.ended) c.next_place.ensures.open counted

pub returns-in-Ok-clause-clients : goal.returns-in-Ok-clause-clients
returns-in-Ok-clause-clients g c = λ before answers turns lets.
    let old = door_of c.args.self.now in
    let mid = door_of c.next_place.new.self in
    let same = c.next_place.ensures.rest.clients in
    rw (rw c.in-Some.is at c.next_place.ensures.done) (let_in_one before answers turns (done_of old) old.clients
    (is_some old.waiting) (passes_of old.pace) lets _ (is_some mid.waiting) (passes_of mid.pace)
    (rw c.in-Some.is at c.next_place.ensures.waits)
    (omega (arith, ap (λ (k : Clients). k.opened) same, ap (λ (k : Clients). k.refused) same))
    (ap (λ (k : Clients). k.waits) same) (ap passes_of c.next_place.ensures.rest.pace))

pub returns-in-Err-clause-clients : goal.returns-in-Err-clause-clients
returns-in-Err-clause-clients g c = λ before answers turns lets.
    let old = door_of c.args.self.now in
    let mid = door_of c.next_place.new.self in
    let same = c.next_place.ensures.rest.clients in
    rw (rw c.in-Some.is at c.next_place.ensures.done) (let_in_one before answers turns (done_of old) old.clients
    (is_some old.waiting) (passes_of old.pace) lets _ (is_some mid.waiting) (passes_of mid.pace)
    (rw c.in-Some.is at c.next_place.ensures.waits)
    (omega (arith, ap (λ (k : Clients). k.opened) same, ap (λ (k : Clients). k.refused) same))
    (ap (λ (k : Clients). k.waits) same) (ap passes_of c.next_place.ensures.rest.pace))

pub returns-in_default-clause-turn : goal.returns-in_default-clause-turn
returns-in_default-clause-turn g c = λ before turn.
    turn_with c.next_place.result (done_of (door_of c.args.self.now)) (done_of (door_of c.next_place.new.self))
    (is_some (door_of c.args.self.now).waiting) (is_some (door_of c.next_place.new.self).waiting) before
    c.next_place.ensures.done c.next_place.ensures.waits turn

pub returns-in-Ok-clause-turn : goal.returns-in-Ok-clause-turn
returns-in-Ok-clause-turn g c = λ before turn.
    turn_with c.next_place.result (done_of (door_of c.args.self.now)) (done_of (door_of c.next_place.new.self))
    (is_some (door_of c.args.self.now).waiting) (is_some (door_of c.next_place.new.self).waiting) before
    c.next_place.ensures.done c.next_place.ensures.waits turn

pub returns-in-Err-clause-turn : goal.returns-in-Err-clause-turn
returns-in-Err-clause-turn g c = λ before turn.
    turn_with c.next_place.result (done_of (door_of c.args.self.now)) (done_of (door_of c.next_place.new.self))
    (is_some (door_of c.args.self.now).waiting) (is_some (door_of c.next_place.new.self).waiting) before
    c.next_place.ensures.done c.next_place.ensures.waits turn
