use Rattle.gateway_serve.proofs.Joints.{written_joins}
use Rattle.gateway_serve.proofs.links.Link.take.Goals as goal

pub returns-in-Ok-clause-serves : goal.returns-in-Ok-clause-serves
returns-in-Ok-clause-serves g c = λ sure before st past ended went joins.
    let s = c.in-Ok.ensures.serves sure before st past ended went joins in
    (s.0, s.1, (s.2.0, written_joins sure ended st s.0 c.args.conn _ _ c.write_given.ensures.part s.2.1))
