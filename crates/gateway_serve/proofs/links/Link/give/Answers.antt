use Rattle.std.proofs.Common.{List, Result, Ok, Err, ◌∙◌}
use Rattle.common.specs.declared.stop.DiskFault.{DiskFault}
use Rattle.tus_session.specs.History.{Marked}
use Rattle.tus_session.proofs.Counting.{uncounted}
use Rattle.gateway_serve.specs.Joined.{Joins, joint_of}
use Rattle.gateway_serve.proofs.After.{alone_after}
use Rattle.gateway_serve.proofs.links.Link.give.Goals as goal

pub returns-in-Err-clause-serves : goal.returns-in-Err-clause-serves
returns-in-Err-clause-serves g c = λ sure before st past ended went joins.
    let n = c.args.conn in
    let s = c.loop-calls.invariant.1 sure before st past ended went joins in
    let reported : Result (Unit {0}) DiskFault = Err c.in-Err.fault in
    let Joined : List Marked → Type 0 = λ now. Joins sure (joint_of c.came.new.self) ended st now n in
    alone_after g.C.Connections sure before c.came.new.gateway st n past s.0 Joined Joined reported s.2.0
    (c.in-Err.ensures.serves sure before st s.0 ended s.1 s.2.1)

pub loop-calls-preserved : goal.loop-calls-preserved
loop-calls-preserved g c = (
  uncounted (λ fails. absurd (cc)) c.in-Ok.ensures.counts ∙ c.loop-calls.invariant.0,
  λ sure before st past ended went joins.
      let n = c.args.conn in
      let s = c.loop-calls.invariant.1 sure before st past ended went joins in
      let reported : Result (Unit {0}) DiskFault = Ok tt in
      let Joined : List Marked → Type 0 = λ now. Joins sure (joint_of c.came.new.self) ended st now n in
      alone_after g.C.Connections sure before c.came.new.gateway st n past s.0 Joined Joined reported s.2.0
      (c.in-Ok.ensures.serves sure before st s.0 ended s.1 s.2.1),
  c.in-Ok.ensures.socket ∙ c.loop-calls.invariant.2,
  λ times among timed. c.came.ensures.times times among (c.loop-calls.invariant.3 times among timed),
)
