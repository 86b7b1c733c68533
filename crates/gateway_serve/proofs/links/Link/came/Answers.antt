use Rattle.std.proofs.Common.{ℕ, List, Result, Ok, Err, refl}
use Rattle.common.specs.declared.stop.DiskFault.{DiskFault}
use Rattle.tus_session.specs.History.{Came, Marked}
use Rattle.gateway_serve.specs.Joined.{Alone, Joins, joint_of}
use Rattle.gateway_serve.proofs.After.{represents_still, surely, served}
use Rattle.gateway_serve.proofs.Talks.{alone_step}
use Rattle.gateway_serve.proofs.Joints.{came_link, came_down}
use Rattle.gateway_serve.proofs.Times.{request_timed}
use Rattle.gateway_serve.proofs.links.Link.came.Goals as goal

pub returns-in-Ok-clause-serves : goal.returns-in-Ok-clause-serves
returns-in-Ok-clause-serves g c = λ sure before st past ended went joins.
    let n = c.args.conn in
    let piece = c.left.result.now in
    let gives = c.came-answer.ensures.gives sure _ went.represents in
    served g.C.Connections sure before c.args.gateway.now c.came-answer.new.gateway st past (Came n piece) went
    (λ known ms among. g.met.C.Connections.durable c.args.gateway.now _ ms (surely went known) among)
    (λ (now : List Marked). Alone sure st n past now
    × Joins sure (joint_of (record c.args.self.now {
      input = c.take.new.self;
      output = c.came-answer.new.self;
      request = c.request_after-self.result;
      stage = c.in-Ok.next.stage;
    })) ended st now n)
    (λ now. Unit {0})
    c.came-answer.result (Ok c.in-Ok.next) c.in-Ok.ensures.fault gives.1.now_represents
    (λ known. c.came-answer.ensures.crash _ (surely went known)) c.came-answer.ensures.falls
    (λ ok. (
      alone_step sure st past (Came n piece) _ refl,
      came_link sure ended st past n c.args.self.now.request c.args.now c.came-answer.result gives.0
          (joint_of c.args.self.now) piece c.take.new.self c.came-answer.new.self c.in-Ok.next.stage c.in-Ok.next.taken
          c.at.result c.request_after-self.result ok c.left.ensures
          gives.1.answer gives.2 c.in-Ok.ensures.stage c.in-Ok.ensures.taken c.take.ensures
          (c.at.ensures sure _ (represents_still g.C.Connections sure before c.args.gateway.now
          c.came-answer.new.gateway st past (Came n piece) went
          (λ known ms among. g.met.C.Connections.durable c.args.gateway.now _ ms (surely went known) among)
          c.came-answer.result ok gives.1.now_represents))
          c.request_after-self.ensures joins,
    )) (λ fails. tt)

pub returns-in-Err-clause-serves : goal.returns-in-Err-clause-serves
returns-in-Err-clause-serves g c = λ sure before st past ended went joins.
    let n = c.args.conn in
    let piece = c.left.result.now in
    let reported : Result ℕ DiskFault = Err c.in-Err.fault in
    let gives = c.came-answer.ensures.gives sure _ went.represents in
    served g.C.Connections sure before c.args.gateway.now c.came-answer.new.gateway st past (Came n piece) went
    (λ known ms among. g.met.C.Connections.durable c.args.gateway.now _ ms (surely went known) among)
    (λ now. Unit {0}) (λ (now : List Marked). Alone sure st n past now
    × Joins sure (joint_of (record c.args.self.now { output = c.came-answer.new.self })) ended st now n)
    c.came-answer.result reported c.in-Err.ensures.fault gives.1.now_represents
    (λ known. c.came-answer.ensures.crash _ (surely went known)) c.came-answer.ensures.falls
    (λ ok. tt)
    (λ fails. (
      alone_step sure st past (Came n piece) _ refl,
      came_down sure ended st past n c.came-answer.result gives.0
          (joint_of c.args.self.now) piece c.came-answer.new.self fails c.left.ensures gives.1.answer gives.2 joins,
    ))

pub returns-in-Ok-clause-times : goal.returns-in-Ok-clause-times
returns-in-Ok-clause-times g c = λ times among timed. (
  timed.0,
  request_timed c.args.now times among c.args.self.now.request c.request_after-self.result _ _ c.request_after-self.ensures
      timed.1,
)
